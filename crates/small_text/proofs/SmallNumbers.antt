-- A number of a small text is one of the tokens' numbers, of the same value, which is in range.
use Rattle.std.specs.Prelude.{nat_le, nat_lt, fold, slice_index}
use Rattle.std.specs.List.{list_all}
use Rattle.std.proofs.Common.{ℕ, zero, suc, pos, ◌≡◌, ◌<◌, ◌≤◌, ◌+◌, ◌*◌, ◌-◌, ◌^◌, ◌==◌, ◌&&◌, ◌||◌, not, Bool, true, false, cond, arith, tests, refl, ap, ◌∙◌, subst, List, [], ◌∷◌, length, filter, lit<, ne_eqb, le-leb}
use Rattle.std.proofs.lemmas.Bool.{and_parts, and_from}
use Rattle.py_base.specs.declared.Place.{Place}
use Rattle.py_tokens.specs.declared.piece.Shape.TheVariants as shapes
use Rattle.py_tokens.specs.declared.token.TokenForm.TheVariants as forms
use Rattle.py_tokens.specs.WordForms.{is_digit, are_more_digits, is_empty, begins_with_digit, number_value}
use Rattle.py_tokens.specs.TextPieces.{IsNumber, IsPiece, a_number}
use Rattle.small_text.specs.TextLines.{is_printable}
use Rattle.small_text.specs.SmallForms.{is_number}
use Rattle.small_text.proofs.LineBits.{digits_value}
use Rattle.small_text.proofs.PassedTests.{bounds, all_weaker, four}
use Rattle.small_text.proofs.LongestFronts.{breaks, longest_number}

-- at most nine digits, with no 0 in front but in `0` itself
record IsSmall (ds : List ℕ) : Type 0 where
  figures : list_all is_digit ds ≡ true
  filled : nat_lt 0 (length ds) ≡ true
  few : nat_le (length ds) 9 ≡ true
  first : (not (slice_index ds 0 == 48) || (length ds == 1)) ≡ true

small_number : (ds : List ℕ) → is_number ds ≡ true → IsSmall ds
unfolding is_number
small_number ds h =
    let (a, b, c, d) = four (list_all is_digit ds) (nat_lt 0 (length ds)) (nat_le (length ds) 9) (not (slice_index ds 0 == 48) || (length ds == 1)) h in
    record { figures = a; filled = b; few = c; first = d }

no_underscore : (c : ℕ) → is_digit c ≡ true → (c == 95) ≡ false
no_underscore c h =
    let (from, to) = bounds 48 57 c h in
    ne_eqb c 95 (λ e. omega arith)

digits_go_on : (ds : List ℕ) → list_all is_digit ds ≡ true → are_more_digits ds ≡ true
digits_go_on [] h = refl
digits_go_on (c ∷ ds) h =
    let (first, more) = and_parts (is_digit c) (list_all is_digit ds) h in
    and_from (cond (c == 95) (begins_with_digit ds) (is_digit c)) (are_more_digits ds) (ap (λ b. cond b (begins_with_digit ds) (is_digit c)) (no_underscore c first) ∙ first) (digits_go_on ds more)

alone : (ds : List ℕ) → (suc (length ds) == 1) ≡ true → is_empty ds ≡ true
alone [] h = refl
alone (c ∷ ds) h = let e : (suc (suc (length ds)) == 1) ≡ false = ne_eqb (suc (suc (length ds))) 1 (λ k. omega arith) in cc

begins_well : (b : Bool) (c : ℕ) (ds : List ℕ) → list_all is_digit (c ∷ ds) ≡ true → (not b || (suc (length ds) == 1)) ≡ true → cond b (is_empty ds) (is_digit c && are_more_digits ds) ≡ true
begins_well true c ds h k = alone ds k
begins_well false c ds h k =
    let (first, more) = and_parts (is_digit c) (list_all is_digit ds) h in
    and_from (is_digit c) (are_more_digits ds) first (digits_go_on ds more)

small_is_number : (ds : List ℕ) → IsSmall ds → IsNumber ds
small_is_number [] s = let e = s.filled in cc
small_is_number (c ∷ ds) s = begins_well (c == 48) c ds s.figures s.first

-- the digits without underscores are all of them
all_stay : (ds : List ℕ) → list_all is_digit ds ≡ true → filter (λ c. not (c == 95)) ds ≡ ds
all_stay [] h = refl
all_stay (c ∷ ds) h =
    let (first, more) = and_parts (is_digit c) (list_all is_digit ds) h in
    ap (λ b. cond (not b) (c ∷ filter (λ c. not (c == 95)) ds) (filter (λ c. not (c == 95)) ds)) (no_underscore c first) ∙ ap (λ t. c ∷ t) (all_stay ds more)

same_value : (ds : List ℕ) → list_all is_digit ds ≡ true → number_value ds ≡ digits_value ds
same_value ds h = ap (fold (λ n c. n * 10 + (c - 48)) 0) (all_stay ds h)

-- a bound on numbers below n with k more digits
grown : ℕ → ℕ → ℕ
grown n zero = n
grown n (suc k) = grown (n * 10) k

grows : (n k : ℕ) → n ≤ grown n k
unfolding grown
grows n zero = omega arith
grows n (suc k) = let g = grows (n * 10) k in omega arith

value_below : (k n limit : ℕ) (ds : List ℕ) → n < limit → length ds ≤ k → list_all is_digit ds ≡ true → fold (λ n c. n * 10 + (c - 48)) n ds < grown limit k
unfolding grown
value_below k n limit [] l w h = let g = grows limit k in omega arith
value_below zero n limit (c ∷ ds) l w h = absurd (omega arith)
value_below (suc k) n limit (c ∷ ds) l w h =
    let (first, more) = and_parts (is_digit c) (list_all is_digit ds) h in
    let (from, to) = bounds 48 57 c first in
    value_below k (n * 10 + (c - 48)) (limit * 10) ds (omega arith) (omega arith) more

nine_digits : grown 1 9 ≡ 1000000000
unfolding grown
nine_digits = refl

small_value : (ds : List ℕ) → IsSmall ds → digits_value ds < 1000000000
small_value ds s =
    let few : length ds ≤ 9 = omega (arith, tests, s.few) in
    let below = value_below 9 0 1 ds (omega arith) few s.figures in
    omega (arith, below, nine_digits)

in_range : (ds : List ℕ) → IsSmall ds → number_value ds < 2 ^ 127
in_range ds s =
    let below = small_value ds s in
    let limit : 1000000000 < 2 ^ 127 = lit< tt in
    rw (same_value ds s.figures) (omega arith)

-- a number is short
pub short_number : (ds : List ℕ) → is_number ds ≡ true → nat_le (digits_value ds) 999999999 ≡ true
short_number ds h =
    let below = small_value ds (small_number ds h) in
    le-leb (digits_value ds) 999999999 (omega (arith, below))

pub number_piece : (p : Place) (ds rest : List ℕ) → is_number ds ≡ true → breaks rest ≡ true → IsPiece p ds rest (shapes.Whole (forms.Number (pos (digits_value ds))))
number_piece p ds rest h b =
    let s = small_number ds h in
    subst (λ (n : ℕ). IsPiece p ds rest (shapes.Whole (forms.Number (pos n)))) (same_value ds s.figures) (a_number (longest_number ds rest (small_is_number ds s) b) (in_range ds s))

pub digits_are_printable : (ds : List ℕ) → is_number ds ≡ true → list_all is_printable ds ≡ true
digits_are_printable ds h = all_weaker is_digit is_printable (λ c d. let (from, to) = bounds 48 57 c d in and_from (nat_le 32 c) (nat_le c 126) (grind (arith, tests)) (grind (arith, tests))) ds (small_number ds h).figures
