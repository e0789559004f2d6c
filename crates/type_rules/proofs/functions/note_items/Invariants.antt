use Rattle.std.proofs.Common.{◌≡◌, ◌≤◌, ◌+◌, ◌++◌, drop}
use Rattle.type_rules.specs.Statements.{faults_from}
use Rattle.type_rules.specs.Types.{types_from, locals_from}
use Rattle.type_rules.proofs.functions.note_items.Given as goal

abbrev pub invariant-items : goal.invariant-items
invariant-items l = record {
  few : l.number ≤ l.item-index + 1;
  faults : l.found ++ faults_from l.classes l.functions l.number (drop l.item-index l.items) ≡ l.fn.found ++ faults_from l.classes l.functions 1 l.items;
  types : l.types ++ types_from l.classes l.functions l.number (drop l.item-index l.items) ≡ l.fn.types ++ types_from l.classes l.functions 1 l.items;
  locals : l.locals ++ locals_from l.classes l.functions l.number (drop l.item-index l.items) ≡ l.fn.locals ++ locals_from l.classes l.functions 1 l.items;
}
