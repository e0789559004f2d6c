-- What is left to look at in the search of a line that is too long.
use Rattle.std.proofs.Common.{arith, ℕ, suc, ◌+◌, ◌<◌, ◌≤◌, Bool, true, false, ◌&&◌, nat_le, ◌≡◌, refl, sym, ap, subst, List, [], ◌∷◌, ◌⊎◌, inl, inr}
use Rattle.std.proofs.lemmas.Bool.{leb-false}
use Rattle.py_tokens.specs.declared.Token.{Token}
use Rattle.py_tokens.specs.declared.TokenForm.{TokenForm}
use Rattle.py_tokens.specs.declared.TokenForm.TheVariants as forms
use Rattle.py_parser.specs.Limits.{is_counted, ends_line, count_behind, line_length, HasLongLine}
use Rattle.py_parser.proofs.Cases.{within_or_over}

-- the line that goes on here, behind so many tokens, is too long, or a line that begins later is
abbrev pub LongFrom : ℕ → ℕ → List Token → Type 0
LongFrom limit n ts = (limit < n + line_length ts) ⊎ HasLongLine limit ts

behind : (limit : ℕ) (k : Token) (ts : List Token) → HasLongLine limit (k ∷ ts) → (limit < line_length (k ∷ ts)) ⊎ HasLongLine limit ts
behind limit k ts ([], after, is, long) = inl (subst (λ z. limit < line_length z) (sym is) long)
behind limit k ts (b ∷ before, after, is, long) = inr (before, after, cc, long)

before_it : (limit : ℕ) (k : Token) (ts : List Token) → HasLongLine limit ts → HasLongLine limit (k ∷ ts)
before_it limit k ts (before, after, is, long) = (k ∷ before, after, ap (λ z. k ∷ z) is, long)

pub starts : (limit : ℕ) (ts : List Token) → HasLongLine limit ts → LongFrom limit 0 ts
starts limit ts h = inr h

pub started : (limit : ℕ) (ts : List Token) → LongFrom limit 0 ts → HasLongLine limit ts
started limit ts (inl h) = ([], ts, refl, omega (arith, h))
started limit ts (inr h) = h

-- a token that is one too many
pub over : (limit n : ℕ) (k : Token) (ts : List Token) → limit ≤ n → (b : Bool) → ends_line k.form ≡ b → is_counted k.form ≡ true → LongFrom limit n (k ∷ ts)
over limit n k ts low true e c = inl (let one : line_length (k ∷ ts) ≡ 1 = rw e refl in omega (arith, one, low))
over limit n k ts low false e c = inl (let one : line_length (k ∷ ts) ≡ suc (line_length ts) = rw e (rw c refl) in omega (arith, one, low))

counts_at_end : (f : TokenForm) → ends_line f ≡ true → is_counted f ≡ true
counts_at_end forms.Newline h = refl
counts_at_end f h = cc

-- how many tokens of the line are counted from a token on, and behind it
pub data Line (limit n : ℕ) (k : Token) (ts : List Token) : ℕ → Type 0 where
  at_end : n < limit → line_length (k ∷ ts) ≡ 1 → Line limit n k ts 0
  counted : n < limit → line_length (k ∷ ts) ≡ suc (line_length ts) → Line limit n k ts (suc n)
  uncounted : line_length (k ∷ ts) ≡ line_length ts → Line limit n k ts n

below : (limit n : ℕ) (b : Bool) → b ≡ true → (b && nat_le limit n) ≡ false → n < limit
below limit n true e h = leb-false limit n h
below limit n false e h = cc

line : (limit n : ℕ) (k : Token) (ts : List Token) → (is_counted k.form && nat_le limit n) ≡ false → (a b : Bool) → ends_line k.form ≡ a → is_counted k.form ≡ b → Line limit n k ts (count_behind n k.form)
line limit n k ts h true b e c = rw e (at_end (below limit n (is_counted k.form) (counts_at_end k.form e) h) (rw e refl))
line limit n k ts h false true e c = rw e (rw c (counted (below limit n (is_counted k.form) c h) (rw e (rw c refl))))
line limit n k ts h false false e c = rw e (rw c (uncounted (rw e (rw c refl))))

forth : (limit n m : ℕ) (k : Token) (ts : List Token) → Line limit n k ts m → LongFrom limit n (k ∷ ts) → LongFrom limit m ts
forth limit n m k ts (at_end low one) (inl h) = absurd (omega (arith, low, h, one))
forth limit n m k ts (at_end low one) (inr h) = elim (behind limit k ts h) [ inl g ↦ absurd (omega (arith, low, g, one)) | inr g ↦ inr g ]
forth limit n m k ts (counted low one) (inl h) = inl (omega (arith, h, one))
forth limit n m k ts (counted low one) (inr h) = elim (behind limit k ts h) [ inl g ↦ inl (omega (arith, g, one)) | inr g ↦ inr g ]
forth limit n m k ts (uncounted one) (inl h) = inl (omega (arith, h, one))
forth limit n m k ts (uncounted one) (inr h) = elim (behind limit k ts h) [ inl g ↦ inl (omega (arith, g, one)) | inr g ↦ inr g ]

back : (limit n m : ℕ) (k : Token) (ts : List Token) → Line limit n k ts m → LongFrom limit m ts → LongFrom limit n (k ∷ ts)
back limit n m k ts (at_end low one) h = inr (before_it limit k ts (started limit ts h))
back limit n m k ts (counted low one) (inl h) = inl (omega (arith, h, one))
back limit n m k ts (counted low one) (inr h) = inr (before_it limit k ts h)
back limit n m k ts (uncounted one) (inl h) = inl (omega (arith, h, one))
back limit n m k ts (uncounted one) (inr h) = inr (before_it limit k ts h)

low : (limit n m : ℕ) (k : Token) (ts : List Token) → n ≤ limit → Line limit n k ts m → m ≤ limit
low limit n m k ts h (at_end g one) = omega (arith)
low limit n m k ts h (counted g one) = omega (arith, g)
low limit n m k ts h (uncounted one) = h

-- where a token isn't one too many, what is left is too long exactly where it was
pub record Goes (limit n m : ℕ) (k : Token) (ts : List Token) : Type 0 where
  pub low : m ≤ limit
  pub forth : LongFrom limit n (k ∷ ts) → LongFrom limit m ts
  pub back : LongFrom limit m ts → LongFrom limit n (k ∷ ts)

pub goes : (limit n : ℕ) (k : Token) (ts : List Token) → n ≤ limit → (is_counted k.form && nat_le limit n) ≡ false → Goes limit n (count_behind n k.form) k ts
goes limit n k ts h f = let l = line limit n k ts f (ends_line k.form) (is_counted k.form) refl refl in record {
  low = low limit n (count_behind n k.form) k ts h l;
  forth = forth limit n (count_behind n k.form) k ts l;
  back = back limit n (count_behind n k.form) k ts l;
}

pub none : (limit n : ℕ) → n ≤ limit → LongFrom limit n [] → ⊥
none limit n low (inl h) = omega (arith, low, h)
none limit n low (inr ([], [], is, h)) = omega (arith, low, h)
none limit n low (inr ([], a ∷ after, is, h)) = cc
none limit n low (inr (b ∷ before, after, is, h)) = cc

-- a list has a line that is too long, or has none
pub long_or_not : (limit : ℕ) (ts : List Token) → HasLongLine limit ts ⊎ (HasLongLine limit ts → ⊥)
long_or_not limit [] = inr (λ h. none limit 0 (omega (arith)) (starts limit [] h))
long_or_not limit (k ∷ ts) = by (within_or_over (line_length (k ∷ ts)) limit) (long_or_not limit ts)
  where
    by : (line_length (k ∷ ts) ≤ limit) ⊎ (limit < line_length (k ∷ ts)) → HasLongLine limit ts ⊎ (HasLongLine limit ts → ⊥) → HasLongLine limit (k ∷ ts) ⊎ (HasLongLine limit (k ∷ ts) → ⊥)
    by (inr long) d = inl ([], k ∷ ts, refl, long)
    by (inl few) (inl h) = inl (before_it limit k ts h)
    by (inl few) (inr n) = inr (λ h. elim (behind limit k ts h) [ inl g ↦ omega (arith, few, g) | inr g ↦ n g ])
