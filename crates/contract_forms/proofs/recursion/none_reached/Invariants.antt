use Rattle.std.proofs.Common.{◌≡◌, map, take}
use Rattle.contract_forms.specs.Pures.{nowhere}
use Rattle.contract_forms.proofs.recursion.none_reached.Given as goal

abbrev pub invariant-rows : goal.invariant-rows
invariant-rows l = l.reached ≡ map nowhere (take l._row-index l.rows)
