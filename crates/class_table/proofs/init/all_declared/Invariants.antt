use Rattle.std.proofs.Common.{◌≡◌, drop}
use Rattle.class_table.specs.Declaring.{declared_behind, all_declared}
use Rattle.class_table.proofs.init.all_declared.Given as goal

abbrev pub invariant-items : goal.invariant-items
invariant-items l = declared_behind l.names l.rows l.declared (drop l.item-index l.items) ≡ all_declared l.names l.rows l.items
