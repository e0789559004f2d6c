use Rattle.std.proofs.Common.{◌≡◌, ◌++◌, map, take}
use Rattle.type_base.specs.Faults.{joined}
use Rattle.type_rules.specs.Statements.{statement_faults, part_faults, handler_faults}
use Rattle.type_rules.specs.Types.{joined_types, statement_types, part_types, handler_types}
use Rattle.type_rules.proofs.statements.+statements.Given as goal

abbrev pub invariant-note_block-statements : goal.invariant-note_block-statements
invariant-note_block-statements l = record {
  faults : l.found ≡ l.fn.found ++ joined (map (statement_faults l.classes l.functions l.scope l.at) (take l.s-index l.s-items));
  types : l.types ≡ l.fn.types ++ joined_types (map (statement_types l.classes l.functions l.scope l.at) (take l.s-index l.s-items));
}

abbrev pub invariant-note_parts-parts : goal.invariant-note_parts-parts
invariant-note_parts-parts l = record {
  faults : l.found ≡ l.fn.found ++ joined (map (part_faults l.classes l.functions l.scope l.at) (take l.part-index l.part-items));
  types : l.types ≡ l.fn.types ++ joined_types (map (part_types l.classes l.functions l.scope l.at) (take l.part-index l.part-items));
}

abbrev pub invariant-note_handlers-handlers : goal.invariant-note_handlers-handlers
invariant-note_handlers-handlers l = record {
  faults : l.found ≡ l.fn.found ++ joined (map (handler_faults l.classes l.functions l.scope l.at) (take l.handler-index l.handler-items));
  types : l.types ≡ l.fn.types ++ joined_types (map (handler_types l.classes l.functions l.scope l.at) (take l.handler-index l.handler-items));
}
