-- Whether bytes are UTF-8.
use Rattle.std.proofs.Common.{ℕ, ◌≡◌, List, Bool, true, false, Result, Ok, Err, MatchResult, is_ok, refl, sym}
use Rattle.std.specs.Str.{IsUtf8, is_utf8}
use Rattle.std.proofs.lemmas.Str.{is_utf8-from_IsUtf8, IsUtf8-from_is_utf8}

not_utf8 : (bytes : List ℕ) → ¬ IsUtf8 bytes → is_utf8 bytes ≡ false
not_utf8 bytes never = by (is_utf8 bytes) refl where
  by : (b : Bool) → is_utf8 bytes ≡ b → b ≡ false
  by true is = absurd (never (IsUtf8-from_is_utf8 bytes is))
  by false is = refl

pub utf8_test : {S E : Type 0} (r : Result S E) (P : S → Type 0) (Q : E → Type 0) (bytes : List ℕ) → MatchResult r (λ s. P s × IsUtf8 bytes) (λ e. ¬ IsUtf8 bytes × Q e) → is_ok r ≡ is_utf8 bytes
utf8_test (Ok s) P Q bytes h = sym (is_utf8-from_IsUtf8 bytes h.1)
utf8_test (Err e) P Q bytes h = sym (not_utf8 bytes h.0)
