use Rattle.std.proofs.Common.{◌≡◌, ◌≤◌, ◌+◌, drop}
use Rattle.type_forms.specs.Forms.{faults_behind}
use Rattle.type_forms.proofs.building.note_all.Given as goal

abbrev pub invariant-items : goal.invariant-items
invariant-items l = record { few : l.number ≤ l.item-index + 1; same : faults_behind l.classes l.items l.number l.found (drop l.item-index l.items) ≡ faults_behind l.classes l.items 1 l.fn.found l.items }
