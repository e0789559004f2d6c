use Rattle.std.proofs.Common.{◌≡◌, drop}
use Rattle.class_table.specs.ClassList.{main_behind}
use Rattle.class_table.proofs.class_list.main_number.Given as goal

abbrev pub invariant-items : goal.invariant-items
invariant-items l = main_behind l.methods (drop l.item-index l.items) ≡ main_behind 0 l.items
