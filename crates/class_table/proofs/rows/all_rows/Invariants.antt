use Rattle.std.proofs.Common.{◌≡◌, drop}
use Rattle.class_table.specs.Bases.{rows_behind, all_rows}
use Rattle.class_table.proofs.rows.all_rows.Given as goal

abbrev pub invariant-items : goal.invariant-items
invariant-items l = rows_behind l.names l.rows (drop l.item-index l.items) ≡ all_rows l.names l.items
