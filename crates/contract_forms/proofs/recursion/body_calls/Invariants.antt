use Rattle.std.proofs.Common.{◌≡◌, flat_map, take}
use Rattle.contract_forms.specs.Pures.{statement_calls}
use Rattle.contract_forms.proofs.recursion.body_calls.Given as goal

abbrev pub invariant-statements : goal.invariant-statements
invariant-statements l = l.calls ≡ flat_map (statement_calls l.functions l.params) (take l.s-index l.body)
