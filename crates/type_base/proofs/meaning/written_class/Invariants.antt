use Rattle.std.proofs.Common.{◌≡◌, ◌≤◌, ◌+◌, drop}
use Rattle.type_base.specs.Members.{class_from, written_class}
use Rattle.type_base.proofs.meaning.written_class.Given as goal

abbrev pub invariant-items : goal.invariant-items
invariant-items l = record { few : l.number ≤ l.item-index + 1; same : class_from l.class l.number (drop l.item-index l.items) ≡ written_class l.items l.class }
