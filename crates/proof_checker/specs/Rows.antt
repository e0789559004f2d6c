-- The rows of assumptions.
use Rattle.std.specs.Prelude.{◌≡◌, ℕ, Bool, true, false, ◌&&◌, ◌-ℤ◌, FitsSigned, List, [], ◌∷◌, Option, Some, None}
use Rattle.std.specs.Int.{w128}
use Rattle.lin_rows.specs.declared.Row.{Row}
use Rattle.lin_rows.specs.Terms.{IsNormal, coef_at}
use Rattle.terms.specs.declared.Term.{Term}
use Rattle.terms.specs.declared.Literal.{Literal}
use Rattle.terms.specs.declared.Literal.TheVariants as lit
use Rattle.terms.specs.Sorts.{of_numbers}
use Rattle.terms.specs.Forms.{AllFormsFit, form_of}

-- the linear forms of the sides, and their difference, are within 128 bits
pub record RowFits (a b : Term) : Type 0 where
  pub left : AllFormsFit a
  pub right : AllFormsFit b
  pub coefs : (v : ℕ) → FitsSigned w128 ((form_of a).coefs v -ℤ (form_of b).coefs v)
  pub units : FitsSigned w128 ((form_of b).units -ℤ (form_of a).units)

-- the row of `a <= b`
pub record IsRow (a b : Term) (r : Row) : Type 0 where
  pub fits : RowFits a b
  pub normal : IsNormal r.coefs
  pub coefs : (v : ℕ) → coef_at r.coefs v ≡ (form_of a).coefs v -ℤ (form_of b).coefs v
  pub bound : r.bound ≡ (form_of b).units -ℤ (form_of a).units

-- the row, where its numbers are within 128 bits
abbrev pub IsRowWhereFits : Term → Term → Option Row → Type 0
IsRowWhereFits a b (Some r) = IsRow a b r
IsRowWhereFits a b None = ¬ (RowFits a b)

-- `a <= b` where the first is true, else none
abbrev pub IsRowIf : Bool → Term → Term → Option Row → Type 0
IsRowIf true a b r = IsRowWhereFits a b r
IsRowIf false a b r = r ≡ None

-- the two rows that have an assumption's numbers: `a <= b`, and where `a` and `b` are the same number
-- `b <= a` too
abbrev pub AreRows : Literal → Option Row → Option Row → Type 0
AreRows (lit.AtMost a b) r s = IsRowIf (of_numbers a && of_numbers b) a b r × (s ≡ None)
AreRows (lit.Same a b) r s = IsRowIf (of_numbers a && of_numbers b) a b r × IsRowIf (of_numbers a && of_numbers b) b a s
AreRows l r s = (r ≡ None) × (s ≡ None)

-- those of all assumptions, in their order
abbrev pub AreAllRows : List Literal → List (Option Row) → Type 0
AreAllRows [] [] = Unit {0}
AreAllRows (l ∷ ls) (r ∷ s ∷ rows) = AreRows l r s × AreAllRows ls rows
AreAllRows ls rows = ⊥
