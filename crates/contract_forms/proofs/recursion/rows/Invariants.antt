use Rattle.std.proofs.Common.{◌≡◌, flat_map, take}
use Rattle.contract_forms.specs.Pures.{item_rows}
use Rattle.contract_forms.proofs.recursion.rows.Given as goal

abbrev pub invariant-items : goal.invariant-items
invariant-items l = l.all ≡ flat_map (item_rows l.functions) (take l.item-index l.items)
