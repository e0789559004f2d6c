use Rattle.std.proofs.Common.{◌≡◌, ◌≤◌, ◌+◌, drop}
use Rattle.class_table.specs.Faults.{faults_behind}
use Rattle.class_table.proofs.checks.note_all.Given as goal

abbrev pub invariant-items : goal.invariant-items
invariant-items l = record { few : l.number ≤ l.item-index + 1; same : faults_behind l.table l.number l.found.items (drop l.item-index l.items) ≡ faults_behind l.table 1 l.fn.found.items l.items }
