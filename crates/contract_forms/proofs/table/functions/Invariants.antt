use Rattle.std.proofs.Common.{◌≡◌, flat_map, take}
use Rattle.contract_forms.specs.Targets.{item_functions}
use Rattle.contract_forms.proofs.table.functions.Given as goal

abbrev pub invariant-items : goal.invariant-items
invariant-items l = l.all ≡ flat_map item_functions (take l.item-index l.items)
