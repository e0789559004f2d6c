use Rattle.std.proofs.Common.{◌≡◌, ◌≤◌, ◌+◌, drop}
use Rattle.class_table.specs.ClassList.{names_behind, all_names}
use Rattle.class_table.proofs.name_list.all_names.Given as goal

abbrev pub invariant-items : goal.invariant-items
invariant-items l = record { few : l.number ≤ l.item-index + 1; same : names_behind l.table l.number l.names (drop l.item-index l.items) ≡ all_names l.table l.items }
