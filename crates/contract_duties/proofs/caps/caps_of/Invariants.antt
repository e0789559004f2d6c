use Rattle.std.proofs.Common.{◌≡◌, drop}
use Rattle.machine_model.specs.Duties as duties
use Rattle.contract_duties.specs.Listed.{duties_in}
use Rattle.contract_duties.proofs.caps.caps_of.Given as goal

abbrev pub invariant-loop-duty : goal.invariant-loop-duty
invariant-loop-duty l = duties.caps_from l.caps (duties_in (drop l.duty-index l.found)) ≡ duties.caps_of (duties_in l.found)
