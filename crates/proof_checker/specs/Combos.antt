-- Combinations of the rows of assumptions, and the rows that a step adds up.
use Rattle.std.specs.Prelude.{◌≡◌, ◌≢◌, ℕ, ◌<◌, if◌then◌else◌, nat_lt, ℤ, pos, ◌+ℤ◌, ◌*ℤ◌, ◌<ℤ◌, ◌≤ℤ◌, List, Option, Some, None}
use Rattle.lin_rows.specs.declared.Row.{Row}
use Rattle.lin_rows.specs.declared.ComboStep.{ComboStep}
use Rattle.lin_rows.specs.Terms.{coef_at}
use Rattle.lin_rows.specs.Rows.{MixFits, NumbersFit, IsSum}
use Rattle.lin_rows.specs.Steps.{IsCombination}
use Rattle.terms.specs.declared.Literal.{Literal}
use Rattle.proof_checker.specs.declared.replies.Figure.{Figure}
use Rattle.proof_checker.specs.declared.replies.Figure.TheVariants.{Coefficient, Units}
use Rattle.proof_checker.specs.declared.summands.Summand.{Summand}
use Rattle.proof_checker.specs.declared.summands.Summand.TheVariants.{Given, Compared}
use Rattle.proof_checker.specs.Rows.{IsRow, AreAllRows}
use Rattle.proof_checker.specs.Chains.{side_term}

-- the steps show that the rows of the assumptions aren't met together
abbrev pub Combines : List Literal → List ComboStep → Type 0
Combines fs steps = (rows : List (Option Row)) × AreAllRows fs rows × IsCombination rows steps

-- the row that a summand stands for
abbrev pub IsRowOf : Summand → Row → Type 0
IsRowOf (Given a) r = r ≡ a.now
IsRowOf (Compared a b) r = IsRow (side_term a.now) (side_term b.now) r

-- a summand for a row, none for none
abbrev pub StandsFor : Option Summand → Option Row → Type 0
StandsFor None x = x ≡ None
StandsFor (Some s) x = (r : Row) × (x ≡ Some r) × IsRowOf s r

-- a summand for what a list of rows has at a number, none where that isn't a row
abbrev pub StandsAt : Option Summand → Option (Option Row) → Type 0
StandsAt None x = (r : Row) → x ≢ Some (Some r)
StandsAt (Some s) x = (r : Row) × (x ≡ Some (Some r)) × IsRowOf s r

-- the coefficient of a variable, or the bound
abbrev pub row_number : Figure → Row → ℤ
row_number (Coefficient v) r = coef_at r.coefs v
row_number Units r = r.bound

-- the step's row has the sum of two rows there, within 128 bits
pub record IsSumAt (q : Figure) (a b : Row) (s : ComboStep) : Type 0 where
  pub fits : MixFits s.by_left (row_number q a) s.by_right (row_number q b)
  pub sum : row_number q s.row ≡ s.by_left *ℤ row_number q a +ℤ s.by_right *ℤ row_number q b

-- the step's row is the sum of two rows
pub record AddsUp (a b : Row) (s : ComboStep) : Type 0 where
  pub by_left : pos 0 <ℤ s.by_left
  pub by_right : pos 0 ≤ℤ s.by_right
  pub fits : NumbersFit s.by_left s.by_right a b
  pub sum : IsSum s.by_left s.by_right a b s.row

-- below a number, where there is one
abbrev pub IsBelow : ℕ → Option ℕ → Type 0
IsBelow w None = Unit {0}
IsBelow w (Some v) = w < v

-- the variables after `last` and below the next one have no coefficient
abbrev pub IsClear : ℕ → Option ℕ → List (ℕ × ℤ) → Type 0
IsClear last next ts = (w : ℕ) → last < w → IsBelow w next → coef_at ts w ≡ pos 0

-- the lesser of two numbers, where there are any
abbrev pub lesser_of : Option ℕ → Option ℕ → Option ℕ
lesser_of None n = n
lesser_of (Some m) None = Some m
lesser_of (Some m) (Some n) = if nat_lt m n then Some m else Some n
