use Rattle.std.proofs.Common.{◌≡◌, drop}
use Rattle.machine_model.specs.Moments.{owns_other}
use Rattle.contract_duties.specs.Listed.{duties_in}
use Rattle.contract_duties.proofs.owned.owns_beside.Given as goal

abbrev pub invariant-loop-at : goal.invariant-loop-at
invariant-loop-at l = owns_other (duties_in l.found) l.heap l.t l.at (drop l.at l.heap) ≡ owns_other (duties_in l.found) l.heap l.t 0 l.heap
