-- What elimination leaves: a level for each variable, in ascending order.
use Rattle.std.specs.Prelude.{ℕ, ◌+◌, ◌<◌, List, [], ◌∷◌, length, ◌⊎◌, All, Contains}
use Rattle.lin_rows.specs.declared.row.Row.{Row}
use Rattle.lin_rows.specs.declared.step.ComboStep.{ComboStep}
use Rattle.lin_solver.specs.Numbers.{HasRow, HaveRows, IsLive, BoundsAbove, BoundsBelow, FollowsFrom, AreCovered}
use Rattle.lin_solver.specs.Variables.{HasNoneFrom, IsNextVariable}
use Rattle.lin_solver.specs.declared.levels.Level.{Level}

-- a number is in one of the three
abbrev pub IsInPart : List ℕ → List ℕ → List ℕ → ℕ → Type 0
IsInPart above below others i = Contains above i ⊎ (Contains below i ⊎ Contains others i)

-- a number is above or below, or its row follows from the next ones
abbrev pub IsKept : List Row → List ComboStep → List ℕ → List ℕ → List ℕ → ℕ → Type 0
IsKept rows steps above below next i = Contains above i ⊎ (Contains below i ⊎ HasRow rows steps (FollowsFrom rows steps next) i)

-- Each of the live rows bounds the level's variable from above or from below, or follows from the next
-- ones, and so does a sum that cancels the variable for each two that bound it from both sides.
pub record IsLevel (rows : List Row) (steps : List ComboStep) (live : List ℕ) (level : Level) (next : List ℕ) : Type 0 where
  pub above : HaveRows rows steps (BoundsAbove rows level.var) level.above
  pub below : HaveRows rows steps (BoundsBelow rows level.var) level.below
  pub parts : All (IsKept rows steps level.above level.below next) live
  pub sums : AreCovered rows steps level.var next level.above level.below

-- The live rows are those before a variable. There is a level for each variable of the rows from there
-- on, and the rows that are live after the last one have none.
abbrev pub AreLevels : List Row → List ComboStep → ℕ → List ℕ → List Level → Type 0
AreLevels rows steps from live [] = HaveRows rows steps (IsLive rows from) live × All (λ r. HasNoneFrom from r.coefs) rows
AreLevels rows steps from live (level ∷ levels) = IsNextVariable rows from level.var × ((next : List ℕ) × IsLevel rows steps live level next × AreLevels rows steps (level.var + 1) next levels)

-- the levels of the rows handed in, which all follow from those that are live before the first variable
abbrev pub AreLevelsOf : List Row → List ComboStep → List Level → Type 0
AreLevelsOf rows steps levels = (first : List ℕ) × ((i : ℕ) → i < length rows → HasRow rows steps (FollowsFrom rows steps first) i) × AreLevels rows steps 0 first levels
