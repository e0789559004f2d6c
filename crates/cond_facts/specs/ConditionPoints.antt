-- Wide points of a condition, and conditions that have none on the way to an answer.
use Rattle.std.specs.Prelude.{◌≡◌, ℕ, ◌≤◌, ◌<◌, ◌⊎◌, unsigned_abs, List, [], ◌∷◌, All, Contains, Some, slice_get}
use Rattle.lin_rows.specs.declared.Row.{Row}
use Rattle.lin_rows.specs.declared.WidePoint.{WidePoint}
use Rattle.lin_rows.specs.declared.WidePoint.TheVariants as points
use Rattle.lin_rows.specs.WidePoints.{IsWidePointOf}
use Rattle.terms.specs.declared.Term.{Term, Sym}
use Rattle.terms.specs.declared.Literal.{Literal}
use Rattle.terms.specs.Forms.{Form, FormFits, form_of}
use Rattle.terms.specs.Fitting.{terms_in}
use Rattle.proof_checker.specs.declared.Condition.{Condition}
use Rattle.proof_checker.specs.Conditions.{literals_of}
use Rattle.proof_checker.specs.Rows.{RowFits, IsRow}
use Rattle.cond_plan.specs.Compared.{OrderIn}

-- A row of the condition: that of an order that one of its literals gives rise to.
abbrev pub IsRowOf : Condition → Row → Type 0
IsRowOf c r = (n : ℕ) × (x : Term) × (y : Term) × OrderIn c n x y × IsRow x y r

-- the linear forms of all terms of the condition are within 128 bits
abbrev pub AreFormsWithin : Condition → Type 0
AreFormsWithin c = All (λ t. FormFits (form_of t)) (terms_in (literals_of c))

-- The literal of a number, the goal last, has a term whose linear form has a number outside 128 bits, or
-- all terms' forms are within and the row of an order that it gives rise to isn't.
pub data IsWideForm (c : Condition) (n : ℕ) : Type 0 where
  of_term : (l : Literal) (t : Term) → slice_get (literals_of c) n ≡ Some l → Contains (terms_in (l ∷ [])) t → ¬ (FormFits (form_of t)) → IsWideForm c n
  of_row : (x y : Term) → AreFormsWithin c → OrderIn c n x y → ¬ (RowFits x y) → IsWideForm c n

-- A wide point of some of the condition's rows.
abbrev pub IsWideOfRows : Condition → WidePoint → Type 0
IsWideOfRows c w = (rows : List Row) × All (IsRowOf c) rows × IsWidePointOf rows w

-- A wide point of the condition: of its rows, or a form, with line 0 and a literal's number as column.
abbrev pub IsWideIn : Condition → WidePoint → Type 0
IsWideIn c (points.Pair a b v) = IsWideOfRows c (points.Pair a b v)
IsWideIn c (points.Bound p r v) = IsWideOfRows c (points.Bound p r v)
IsWideIn c (points.Form place) = (place.line ≡ 0) × IsWideForm c place.col

-- no number of the form is above `m` in size
pub record IsFormWithin (m : ℕ) (f : Form) : Type 0 where
  pub coefs : (v : ℕ) → unsigned_abs (f.coefs v) ≤ m
  pub units : unsigned_abs f.units ≤ m

-- the condition has no number symbols but these three
abbrev pub HasSymbols : Condition → ℕ → ℕ → ℕ → Type 0
HasSymbols c u v w = (x : ℕ) → Contains (terms_in (literals_of c)) (Sym x) → (x ≡ u) ⊎ ((x ≡ v) ⊎ (x ≡ w))

-- At most three number symbols, those of results counted, and no number above 1,000 in the linear forms
-- of the terms and of those within them.
pub record IsNarrow (c : Condition) : Type 0 where
  pub symbols : (u : ℕ) × (v : ℕ) × (w : ℕ) × (u < v) × (v < w) × HasSymbols c u v w
  pub numbers : All (λ t. IsFormWithin 1000 (form_of t)) (terms_in (literals_of c))
