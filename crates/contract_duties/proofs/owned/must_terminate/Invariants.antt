use Rattle.std.proofs.Common.{◌≡◌, drop}
use Rattle.std.specs.List.{list_any}
use Rattle.contract_duties.specs.Listed.{ends}
use Rattle.contract_duties.proofs.owned.must_terminate.Given as goal

abbrev pub invariant-loop-a : goal.invariant-loop-a
invariant-loop-a l = list_any ends (drop l.a-index l.all) ≡ list_any ends l.all
