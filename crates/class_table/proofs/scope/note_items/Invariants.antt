use Rattle.std.proofs.Common.{◌≡◌, ◌++◌, [], take, drop}
use Rattle.class_table.specs.Faults.{module_faults}
use Rattle.class_table.proofs.scope.note_items.Given as goal

abbrev pub invariant-items : goal.invariant-items
invariant-items l = record { at : l.at ≡ l.item-index; same : l.found.items ++ module_faults (take l.item-index l.items) (drop l.item-index l.items) ≡ l.fn.found.items ++ module_faults [] l.items }
