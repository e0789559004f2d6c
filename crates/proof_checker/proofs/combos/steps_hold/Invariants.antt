use Rattle.std.specs.Prelude.{◌≤◌, ◌-◌, List, Option, length, take}
use Rattle.lin_rows.specs.declared.Row.{Row}
use Rattle.lin_rows.specs.Steps.{StepsHold}
use Rattle.proof_checker.specs.Chains.{facts}
use Rattle.proof_checker.specs.Rows.{AreAllRows}
use Rattle.proof_checker.proofs.combos.steps_hold.Given as goal

-- the steps so far hold
abbrev pub invariant-steps : goal.invariant-steps
invariant-steps l = record {
  within : l.i ≤ length l.steps;
  hold : (rows : List (Option Row)) → AreAllRows (facts l.chain) rows → StepsHold rows (take l.i l.steps);
}

abbrev pub decreases-steps : goal.decreases-steps
decreases-steps l = length l.steps - l.i
