use Rattle.std.proofs.Common.{◌≡◌, drop}
use Rattle.machine_model.specs.Duties as duties
use Rattle.contract_duties.proofs.caps.cap_for.Given as goal

abbrev pub invariant-loop-cap : goal.invariant-loop-cap
invariant-loop-cap l = duties.cap_for l.r (drop l.cap-index l.caps) ≡ duties.cap_for l.r l.caps
