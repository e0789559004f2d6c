use Rattle.std.proofs.Common.{◌≡◌, drop}
use Rattle.std.specs.List.{list_any}
use Rattle.machine_model.specs.Duties as duties
use Rattle.contract_duties.specs.Listed.{duties_in}
use Rattle.contract_duties.proofs.owned.is_named.Given as goal

abbrev pub invariant-loop-duty : goal.invariant-loop-duty
invariant-loop-duty l = list_any (duties.names_lock l.at) (duties_in (drop l.duty-index l.found)) ≡ list_any (duties.names_lock l.at) (duties_in l.found)
