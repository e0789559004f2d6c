use Rattle.std.proofs.Common.{◌≡◌, map, take}
use Rattle.contract_forms.specs.Pures.{calls_toward}
use Rattle.contract_forms.proofs.recursion.one_round.Given as goal

abbrev pub invariant-rows : goal.invariant-rows
invariant-rows l = l.reached ≡ map (calls_toward l.target l.before) (take l.row-index l.rows)
