use Rattle.std.proofs.Common.{◌≡◌, ◌++◌, map, take}
use Rattle.type_base.specs.Faults.{joined}
use Rattle.type_rules.specs.Statements.{statement_faults}
use Rattle.type_rules.specs.Types.{joined_types, statement_types}
use Rattle.type_rules.proofs.functions.note_body.Given as goal

abbrev pub invariant-body : goal.invariant-body
invariant-body l = record {
  faults : l.found ≡ l.fn.found ++ joined (map (statement_faults l.classes l.functions l.scope l.at) (take l.s-index l.body));
  types : l.types ≡ l.fn.types ++ joined_types (map (statement_types l.classes l.functions l.scope l.at) (take l.s-index l.body));
}
