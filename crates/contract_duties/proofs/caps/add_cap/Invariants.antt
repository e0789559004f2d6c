use Rattle.std.proofs.Common.{◌≡◌, ◌++◌, ◌-◌, take, drop, length}
use Rattle.machine_model.specs.Duties as duties
use Rattle.contract_duties.proofs.caps.add_cap.Given as goal

abbrev pub invariant-loop-at : goal.invariant-loop-at
invariant-loop-at l = (l.caps ≡ l.fn.caps) × (take l.at l.caps ++ duties.with_cap l.r l.z (drop l.at l.caps) ≡ duties.with_cap l.r l.z l.caps)

abbrev pub decreases-loop-at : goal.decreases-loop-at
decreases-loop-at l = length l.caps - l.at
