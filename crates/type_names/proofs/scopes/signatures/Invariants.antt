use Rattle.std.proofs.Common.{◌≡◌, ◌≤◌, ◌+◌, drop}
use Rattle.type_names.specs.Signatures.{signatures_behind, signatures}
use Rattle.type_names.proofs.scopes.signatures.Given as goal

abbrev pub invariant-items : goal.invariant-items
invariant-items l = record { few : l.number ≤ l.item-index + 1; same : signatures_behind l.classes l.number l.all (drop l.item-index l.items) ≡ signatures l.classes l.items }
