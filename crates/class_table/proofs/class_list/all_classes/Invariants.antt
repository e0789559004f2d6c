use Rattle.std.proofs.Common.{◌≡◌, ◌∷◌, [], drop}
use Rattle.class_table.specs.ClassList.{classes_behind, exception_class}
use Rattle.class_table.proofs.class_list.all_classes.Given as goal

abbrev pub invariant-items : goal.invariant-items
invariant-items l = classes_behind l.table l.names l.methods l.predicates l.list (drop l.item-index l.items) ≡ classes_behind l.table l.names 0 0 (exception_class ∷ []) l.items
