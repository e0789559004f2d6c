use Rattle.std.proofs.Common.{◌≡◌, map, drop, Bool}
use Rattle.std.specs.List.{list_any}
use Rattle.contract_duties.specs.Listed.{ends}
use Rattle.contract_duties.proofs.owned.+terminates.Given as goal

abbrev pub invariant-any_terminates-loop-a : goal.invariant-any_terminates-loop-a
invariant-any_terminates-loop-a l = list_any (λ (b : Bool). b) (map ends (drop l.a-index l.all)) ≡ list_any (λ (b : Bool). b) (map ends l.all)
