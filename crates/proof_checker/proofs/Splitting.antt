-- One side of a split holds.
use Rattle.std.specs.Prelude.{◌≡◌, ℕ, Bool, true, false, not, ◌&&◌, IsTrue, ℤ, pos, ◌+ℤ◌, ◌*ℤ◌, ◌≤ℤ◌, ◌⊎◌, List, All, Contains}
use Rattle.std.proofs.Common.{refl, ap, sym, ◌∙◌, inl, inr, arith}
use Rattle.std.proofs.lemmas.Int.{ints}
use Rattle.lin_rows.specs.TermLaws.{at_or_not}
use Rattle.terms.specs.declared.Term.{Term}
use Rattle.terms.specs.declared.Literal.{Literal}
use Rattle.terms.specs.declared.Literal.TheVariants as lit
use Rattle.terms.specs.Sorts.{of_numbers, sorted}
use Rattle.terms.specs.Meanings.{Valued, Number, Reference, sum_of, meaning_at, number_at, IsAtMost, AreApart, AreClear, Holds}
use Rattle.terms.specs.MeaningLaws.{number_meant}
use Rattle.terms.specs.Fitting.{Fits, sides}
use Rattle.proof_checker.specs.declared.condition.Condition.{Condition}
use Rattle.proof_checker.specs.Conditions.{literals_of, opposite, plus_one}
use Rattle.proof_checker.specs.Derivations.{ArePair, AreNumbers, AreReferences, Splits, flag, same_reference, other_reference, same_number, order, apart}
use Rattle.proof_checker.proofs.Meant.{meant-one, meant_reference}
use Rattle.proof_checker.proofs.Facts.{along, turned_clear, assumed_holds}

flag_or_not : (b held : Bool) → (b ≡ held) ⊎ (b ≡ not held)
flag_or_not true true = inl refl
flag_or_not true false = inr refl
flag_or_not false true = inr refl
flag_or_not false false = inl refl

references : (m : Valued) (a b : Term) → AreReferences a b → AreClear m.unit (meaning_at m a) (meaning_at m b)
references m a b are =
    let (i, e) = meant_reference m a are.left in
    let (j, f) = meant_reference m b are.right in
    at_or_not i j (λ s. inl (e ∙ ap (λ (n : ℕ). Reference n) s ∙ sym f)) (λ other. inr (along (AreApart m.unit) (Reference i) (meaning_at m a) (Reference j) (meaning_at m b) (sym e) (sym f) (λ s. other (same i j s))))
  where
    same : (i j : ℕ) → Reference i ≡ Reference j → i ≡ j
    same i j s = cc

-- `x <= y`, or `y` and a unit is at most `x`
one_order : (unit x y : ℤ) → pos 1 ≤ℤ unit → AreClear unit (Number x) (Number y) → IsAtMost (Number x) (Number y) ⊎ IsAtMost (sum_of (Number y) (Number (pos 1 *ℤ unit))) (Number x)
one_order unit x y one (inl e) = let s : x ≡ y = cc in inl (omega (arith, ints, s))
one_order unit x y one (inr (inl h)) = inl (omega (arith, ints, h))
one_order unit x y one (inr (inr h)) = inr (omega (arith, ints, h))

sum_meant : (m : Valued) (t : Term) → IsTrue (of_numbers t) → meaning_at m (plus_one t) ≡ sum_of (Number (number_at m t)) (Number (pos 1 *ℤ m.unit))
sum_meant m t is = meant-one m t ∙ ap (λ p. sum_of p (Number (pos 1 *ℤ m.unit))) (number_meant m t is)

orders : (m : Valued) (a b : Term) → pos 1 ≤ℤ m.unit → AreNumbers a b → AreClear m.unit (meaning_at m a) (meaning_at m b) → Holds m (lit.AtMost a b) ⊎ Holds m (lit.AtMost (plus_one b) a)
orders m a b one are clear =
    let e = number_meant m a are.left in
    let f = number_meant m b are.right in
    let here = along (AreClear m.unit) (meaning_at m a) (Number (number_at m a)) (meaning_at m b) (Number (number_at m b)) e f clear in
    elim (one_order m.unit (number_at m a) (number_at m b) one here) [
      | inl h ↦ inl (along IsAtMost (Number (number_at m a)) (meaning_at m a) (Number (number_at m b)) (meaning_at m b) (sym e) (sym f) h)
      | inr h ↦ inr (along IsAtMost (sum_of (Number (number_at m b)) (Number (pos 1 *ℤ m.unit))) (meaning_at m (plus_one b)) (Number (number_at m a)) (meaning_at m a) (sym (sum_meant m b are.right)) (sym e) h)
    ]

above : (unit x y : ℤ) → (x +ℤ unit) ≤ℤ y → IsAtMost (sum_of (Number x) (Number (pos 1 *ℤ unit))) (Number y)
above unit x y h = omega (arith, ints, h)

ways_apart : (m : Valued) (a b : Term) → AreNumbers a b → AreApart m.unit (meaning_at m a) (meaning_at m b) → Holds m (lit.AtMost (plus_one a) b) ⊎ Holds m (lit.AtMost (plus_one b) a)
ways_apart m a b are apart_ =
    let e = number_meant m a are.left in
    let f = number_meant m b are.right in
    let here : AreApart m.unit (Number (number_at m a)) (Number (number_at m b)) =
    along (AreApart m.unit) (meaning_at m a) (Number (number_at m a)) (meaning_at m b) (Number (number_at m b)) e f apart_ in
    elim here [
      | inl h ↦ inl (along IsAtMost (sum_of (Number (number_at m a)) (Number (pos 1 *ℤ m.unit))) (meaning_at m (plus_one a)) (Number (number_at m b)) (meaning_at m b) (sym (sum_meant m a are.left)) (sym f) (above m.unit (number_at m a) (number_at m b) h))
      | inr h ↦ inr (along IsAtMost (sum_of (Number (number_at m b)) (Number (pos 1 *ℤ m.unit))) (meaning_at m (plus_one b)) (Number (number_at m a)) (meaning_at m a) (sym (sum_meant m b are.right)) (sym e) (above m.unit (number_at m b) (number_at m a) h))
    ]

swapped : {P Q : Type 0} → P ⊎ Q → Q ⊎ P
swapped (inl h) = inr h
swapped (inr h) = inl h

pair_clear : (m : Valued) (c : Condition) (a b : Term) → Fits m (literals_of c) → ArePair c a b → AreClear m.unit (meaning_at m a) (meaning_at m b)
pair_clear m c a b fits (inl there) = fits.clear a b there
pair_clear m c a b fits (inr there) = turned_clear m.unit (meaning_at m b) (meaning_at m a) (fits.clear b a there)

pub one_side_holds : (m : Valued) (c : Condition) (fs : List Literal) (l k : Literal) → Fits m (literals_of c) → All (Holds m) fs → Splits c fs l k → Holds m l ⊎ Holds m k
one_side_holds m c fs _ _ fits all (flag n held) = flag_or_not (m.flags n) held
one_side_holds m c fs _ _ fits all (same_reference a b are) = references m a b are
one_side_holds m c fs _ _ fits all (other_reference a b are) = swapped (references m a b are)
one_side_holds m c fs _ _ fits all (same_number a b are pair) = pair_clear m c a b fits pair
one_side_holds m c fs _ _ fits all (order a b are pair none) = orders m a b fits.unit are (pair_clear m c a b fits pair)
one_side_holds m c fs _ _ fits all (apart a b are there) = ways_apart m a b are (assumed_holds m fs (lit.Apart a b) all there)

both : (a b : Bool) → IsTrue (a && b) → (a ≡ true) × (b ≡ true)
both true b h = (refl, h)
both false b h = absurd (cc)

-- a literal of a condition holds, or its opposite does
pub holds_or_not : (m : Valued) (ls : List Literal) (l : Literal) → Fits m ls → Contains ls l → IsTrue (sorted l) → Holds m l ⊎ Holds m (opposite l)
holds_or_not m ls (lit.AtMost a b) fits there is =
    let (left, right) = both (of_numbers a) (of_numbers b) is in
    orders m a b fits.unit (record { left = left; right = right }) (fits.clear a b (sides (lit.AtMost a b) a b there refl))
holds_or_not m ls (lit.Same a b) fits there is = fits.clear a b (sides (lit.Same a b) a b there refl)
holds_or_not m ls (lit.Apart a b) fits there is = swapped (fits.clear a b (sides (lit.Apart a b) a b there refl))
holds_or_not m ls (lit.Flag n held) fits there is = flag_or_not (m.flags n) held
