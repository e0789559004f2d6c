use Rattle.std.specs.Prelude.{ℕ, ◌-◌, ◌≤◌, ◌<◌, ◌^◌, List, length, map, Some}
use Rattle.lin_rows.specs.Steps.{StepsHold}
use Rattle.lin_solver.specs.Numbers.{HasRow, HaveRows, FollowsFrom, IsLive}
use Rattle.lin_solver.proofs.LevelLemmas.{Leads}
use Rattle.lin_solver.proofs.levels.levels_of.Given as goal

abbrev pub invariant-loop-var : goal.invariant-loop-var
invariant-loop-var l = record {
  kept : StepsHold (map Some l.fn.rows) l.fn.steps → StepsHold (map Some l.fn.rows) l.steps;
  within : l.from ≤ 2 ^ 32;
  live : HaveRows l.fn.rows l.steps (IsLive l.fn.rows l.from) l.live;
  levels : (first : List ℕ) × ((i : ℕ) → i < length l.fn.rows → HasRow l.fn.rows l.steps (FollowsFrom l.fn.rows l.steps first) i) × Leads l.fn.rows l.steps first l.levels l.from l.live;
}

abbrev pub decreases-loop-var : goal.decreases-loop-var
decreases-loop-var l = 2 ^ 32 - l.from
