-- Combinations of rows, whose last row can't be met.
use Rattle.std.specs.Prelude.{◌≡◌, ℕ, ℤ, pos, ◌<ℤ◌, ◌≤ℤ◌, List, [], ◌∷◌, ◌++◌, Option, Some, map, slice_get}
use Rattle.lin_rows.specs.declared.row.Row.{Row}
use Rattle.lin_rows.specs.declared.step.ComboStep.{ComboStep}
use Rattle.lin_rows.specs.Rows.{Meets, IsSum, NumbersFit}

-- The step is the sum of two rows of lower numbers, with a positive left multiplier and a right one
-- that is positive or 0. A number below it may also have no row.
pub record StepHolds (lower : List (Option Row)) (s : ComboStep) : Type 0 where
  pub left : Row
  pub right : Row
  pub at_left : slice_get lower s.left ≡ Some (Some left)
  pub at_right : slice_get lower s.right ≡ Some (Some right)
  pub by_left : pos 0 <ℤ s.by_left
  pub by_right : pos 0 ≤ℤ s.by_right
  pub fits : NumbersFit s.by_left s.by_right left right
  pub sum : IsSum s.by_left s.by_right left right s.row

-- so is each of the steps, which are numbered in order after the rows handed in
abbrev pub StepsHold : List (Option Row) → List ComboStep → Type 0
StepsHold lower [] = Unit {0}
StepsHold lower (s ∷ ss) = StepHolds lower s × StepsHold (lower ++ Some s.row ∷ []) ss

-- the rows handed in, and then those of the steps
abbrev pub all_rows : List (Option Row) → List ComboStep → List (Option Row)
all_rows rows steps = rows ++ map (λ s. Some s.row) steps

-- the row says that 0 is at most a negative number
abbrev pub IsFalse : Row → Type 0
IsFalse r = (r.coefs ≡ []) × (r.bound <ℤ pos 0)

-- the row of the last step has no terms and a negative bound
abbrev pub EndsFalse : List ComboStep → Type 0
EndsFalse steps = (first : List ComboStep) × (last : ComboStep) × (steps ≡ first ++ last ∷ []) × IsFalse last.row

-- the steps show that the rows handed in aren't met together (Farkas)
pub record IsCombination (rows : List (Option Row)) (steps : List ComboStep) : Type 0 where
  pub steps_hold : StepsHold rows steps
  pub ends_false : EndsFalse steps

-- each row that has a number is met
abbrev pub AreMet : ℤ → (ℕ → ℤ) → List (Option Row) → Type 0
AreMet q x rows = (i : ℕ) (r : Row) → slice_get rows i ≡ Some (Some r) → Meets q x r
