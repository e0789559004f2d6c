-- Bytes are UTF-8, or have a first byte that belongs to no whole character.
use Rattle.std.proofs.Common.{ℕ, zero, suc, ◌≡◌, ◌<◌, ◌⊎◌, inl, inr, Bool, true, false, arith, refl, subst, List, [], ◌∷◌, length, take, take_all}
use Rattle.std.proofs.Math.Decide.{dec_lt}
use Rattle.std.specs.Str.{IsUtf8, IsValidUpTo, is_utf8}
use Rattle.std.proofs.lemmas.Str.{IsUtf8-nil, IsUtf8-from_is_utf8, is_utf8-from_IsUtf8}

not_utf8 : (bytes : List ℕ) → is_utf8 bytes ≡ false → ¬ IsUtf8 bytes
not_utf8 bytes h utf8 = let e : is_utf8 bytes ≡ true = is_utf8-from_IsUtf8 bytes utf8 in cc

-- no front longer than this is UTF-8
abbrev NoneLonger : List ℕ → ℕ → Type 0
NoneLonger bytes k = (m : ℕ) → k < m → ¬ IsUtf8 (take m bytes)

abbrev HasBadByte : List ℕ → Type 0
HasBadByte bytes = (n : ℕ) × IsValidUpTo bytes n

nor_this : (bytes : List ℕ) (k m : ℕ) → Dec (suc k < m) → k < m → ¬ IsUtf8 (take (suc k) bytes) → NoneLonger bytes (suc k) → ¬ IsUtf8 (take m bytes)
nor_this bytes k m (yes l) i bad none utf8 = none m l utf8
nor_this bytes k m (no l) i bad none utf8 = let e : m ≡ suc k = omega (arith, l) in bad (subst (λ (n : ℕ). IsUtf8 (take n bytes)) e utf8)

tried : (bytes : List ℕ) (k : ℕ) (b : Bool) → is_utf8 (take (suc k) bytes) ≡ b → suc k < length bytes → NoneLonger bytes (suc k) → (NoneLonger bytes k → HasBadByte bytes) → HasBadByte bytes
tried bytes k true e within none shorter = (suc k, record { short = within; front = IsUtf8-from_is_utf8 (take (suc k) bytes) e; longest = none })
tried bytes k false e within none shorter = shorter (λ m l. nor_this bytes k m (dec_lt (suc k) m) l (not_utf8 (take (suc k) bytes) e) none)

bad_byte_from : (bytes : List ℕ) (k : ℕ) → k < length bytes → NoneLonger bytes k → HasBadByte bytes
bad_byte_from bytes zero within none = (0, record { short = within; front = IsUtf8-nil; longest = none })
bad_byte_from bytes (suc k) within none = tried bytes k (is_utf8 (take (suc k) bytes)) refl within none (λ shorter. bad_byte_from bytes k (omega arith) shorter)

bad_byte_in : (bytes : List ℕ) → ¬ IsUtf8 bytes → HasBadByte bytes
bad_byte_in [] bad = absurd (bad IsUtf8-nil)
bad_byte_in (b ∷ bytes) bad = bad_byte_from (b ∷ bytes) (length bytes) (omega arith) (λ m l utf8. bad (subst IsUtf8 (take_all m (b ∷ bytes) (omega arith)) utf8))

utf8_by : (bytes : List ℕ) (b : Bool) → is_utf8 bytes ≡ b → IsUtf8 bytes ⊎ HasBadByte bytes
utf8_by bytes true e = inl (IsUtf8-from_is_utf8 bytes e)
utf8_by bytes false e = inr (bad_byte_in bytes (not_utf8 bytes e))

pub utf8_or_bad_byte : (bytes : List ℕ) → IsUtf8 bytes ⊎ ((n : ℕ) × IsValidUpTo bytes n)
utf8_or_bad_byte bytes = utf8_by bytes (is_utf8 bytes) refl
