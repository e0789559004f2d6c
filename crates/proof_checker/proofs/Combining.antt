-- The rows of assumptions that hold are met.
use Rattle.std.specs.Prelude.{◌≡◌, zero, suc, Bool, true, false, ◌&&◌, ℤ, pos, negsuc, ◌+ℤ◌, ◌-ℤ◌, ◌*ℤ◌, ◌≤ℤ◌, List, [], ◌∷◌, All, Option, Some, None}
use Rattle.std.proofs.Common.{refl, ap, sym, subst, ◌∙◌, arith}
use Rattle.std.proofs.lemmas.Int.{ints}
use Rattle.std.proofs.lemmas.List.Elements.{All-head, All-tail}
use Rattle.lin_rows.specs.declared.Row.{Row}
use Rattle.lin_rows.specs.Terms.{value_at}
use Rattle.lin_rows.specs.TermLaws.{value-mixed}
use Rattle.lin_rows.specs.Rows.{Meets}
use Rattle.lin_rows.specs.Steps.{AreMet}
use Rattle.lin_rows.specs.Ring as ring
use Rattle.terms.specs.declared.Term.{Term}
use Rattle.terms.specs.declared.Literal.{Literal}
use Rattle.terms.specs.declared.Literal.TheVariants as lit
use Rattle.terms.specs.Sorts.{of_numbers}
use Rattle.terms.specs.Forms.{form_of}
use Rattle.terms.specs.FormLaws.{has_form}
use Rattle.terms.specs.Meanings.{Valued, Meaning, Number, Reference, meaning_at, number_at, IsAtMost, Holds}
use Rattle.terms.specs.MeaningLaws.{number_meant, meant_number}
use Rattle.proof_checker.specs.Rows.{IsRow, IsRowIf, AreRows, AreAllRows}
use Rattle.proof_checker.proofs.Facts.{along}

numbers_at_most : (m : Valued) (a b : Term) (p q : Meaning) → meaning_at m a ≡ p → meaning_at m b ≡ q → IsAtMost p q → number_at m a ≤ℤ number_at m b
numbers_at_most m a b (Number x) (Number y) e f h =
    subst (λ z. number_at m a ≤ℤ z) (meant_number m b y f) (subst (λ z. z ≤ℤ y) (meant_number m a x e) h)
numbers_at_most m a b (Number x) (Reference n) e f h = absurd h
numbers_at_most m a b (Reference n) (Number y) e f h = absurd h
numbers_at_most m a b (Reference n) (Reference i) e f h = absurd h

less : (r x y fx fy : ℤ) → r ≡ fx -ℤ fy → x ≡ fx → y ≡ fy → r ≡ pos 1 *ℤ x +ℤ negsuc 0 *ℤ y
less r x y fx fy e f g = omega (arith, ints, e, f, g)

met_by : (v s t c d w x y : ℤ) → v ≡ pos 1 *ℤ s +ℤ negsuc 0 *ℤ t → w ≡ d -ℤ c → x ≡ s +ℤ c → y ≡ t +ℤ d → x ≤ℤ y → v ≤ℤ w
met_by v s t c d w x y e f g h le = omega (arith, ints, e, f, g, h, le)

row_met : (m : Valued) (a b : Term) (r : Row) → IsRow a b r → IsAtMost (meaning_at m a) (meaning_at m b) → Meets m.unit m.numbers r
row_met m a b r is h =
    let left = has_form m a in
    let right = has_form m b in
    let value = value-mixed (pos 1) (negsuc 0) m.numbers left.terms right.terms r.coefs (λ v. less _ _ _ ((form_of a).coefs v) ((form_of b).coefs v) (is.coefs v) (left.coefs v) (right.coefs v)) in
    let bound : r.bound *ℤ m.unit ≡ (form_of b).units *ℤ m.unit -ℤ (form_of a).units *ℤ m.unit =
    ap (λ z. z *ℤ m.unit) is.bound ∙ ring.-ℤ-*ℤ (form_of b).units (form_of a).units m.unit in
    met_by (value_at m.numbers r.coefs) (value_at m.numbers left.terms) (value_at m.numbers right.terms) ((form_of a).units *ℤ m.unit) ((form_of b).units *ℤ m.unit) (r.bound *ℤ m.unit) (number_at m a) (number_at m b) value bound left.number right.number
    (numbers_at_most m a b (meaning_at m a) (meaning_at m b) refl refl h)

-- a row, where there is one, is met
abbrev IsMet : Valued → Option Row → Type 0
IsMet m (Some r) = Meets m.unit m.numbers r
IsMet m None = Unit {0}

row_if_met : (m : Valued) (t : Bool) (a b : Term) (r : Option Row) → IsRowIf t a b r → (t ≡ true → IsAtMost (meaning_at m a) (meaning_at m b)) → IsMet m r
row_if_met m true a b (Some r) is h = row_met m a b r is (h refl)
row_if_met m true a b None is h = tt
row_if_met m false a b r is h = subst (IsMet m) (sym is) tt

both : (a b : Bool) → (a && b) ≡ true → (a ≡ true) × (b ≡ true)
both true b h = (refl, h)
both false b h = absurd (cc)

itself : (x : ℤ) → IsAtMost (Number x) (Number x)
itself x = omega (arith, ints)

equal_at_most : (p q : Meaning) (x : ℤ) → p ≡ Number x → p ≡ q → IsAtMost p q
equal_at_most p q x e f = along IsAtMost (Number x) p (Number x) q (sym e) (sym e ∙ f) (itself x)

rows_met : (m : Valued) (l : Literal) (r s : Option Row) → AreRows l r s → Holds m l → IsMet m r × IsMet m s
rows_met m (lit.AtMost a b) r s (is, none) h =
    (row_if_met m (of_numbers a && of_numbers b) a b r is (λ t. h), subst (IsMet m) (sym none) tt)
rows_met m (lit.Same a b) r s (is, back) h = (
  row_if_met m (of_numbers a && of_numbers b) a b r is (λ t. equal_at_most (meaning_at m a) (meaning_at m b) (number_at m a) (number_meant m a (both (of_numbers a) (of_numbers b) t).0) h),
  row_if_met m (of_numbers a && of_numbers b) b a s back (λ t. equal_at_most (meaning_at m b) (meaning_at m a) (number_at m b) (number_meant m b (both (of_numbers a) (of_numbers b) t).1) (sym h)),
)
rows_met m (lit.Apart a b) r s (none, none_) h = (subst (IsMet m) (sym none) tt, subst (IsMet m) (sym none_) tt)
rows_met m (lit.Flag n held) r s (none, none_) h = (subst (IsMet m) (sym none) tt, subst (IsMet m) (sym none_) tt)

pub all_rows_met : (m : Valued) (fs : List Literal) (rows : List (Option Row)) → AreAllRows fs rows → All (Holds m) fs → AreMet m.unit m.numbers rows
all_rows_met m [] [] are all i r e = absurd (cc)
all_rows_met m [] (x ∷ rows) are all i r e = absurd are
all_rows_met m (l ∷ fs) [] are all i r e = absurd are
all_rows_met m (l ∷ fs) (x ∷ []) are all i r e = absurd are
all_rows_met m (l ∷ fs) (x ∷ y ∷ rows) are all zero r e =
    let same : x ≡ Some r = cc in
    subst (IsMet m) same (rows_met m l x y are.0 (All-head (Holds m) l fs all)).0
all_rows_met m (l ∷ fs) (x ∷ y ∷ rows) are all (suc zero) r e =
    let same : y ≡ Some r = cc in
    subst (IsMet m) same (rows_met m l x y are.0 (All-head (Holds m) l fs all)).1
all_rows_met m (l ∷ fs) (x ∷ y ∷ rows) are all (suc (suc i)) r e =
    all_rows_met m fs rows are.1 (All-tail (Holds m) l fs all) i r e
