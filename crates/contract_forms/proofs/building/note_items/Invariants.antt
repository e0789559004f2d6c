use Rattle.std.proofs.Common.{◌≡◌, ◌++◌, take, flat_map}
use Rattle.contract_forms.specs.Faults.{item_breaches}
use Rattle.contract_forms.proofs.building.note_items.Given as goal

abbrev pub invariant-items : goal.invariant-items
invariant-items l = l.found ≡ l.fn.found ++ flat_map (item_breaches l.functions) (take l.item-index l.items)
