use Rattle.std.proofs.Common.{◌≡◌, ◌++◌, map, take}
use Rattle.class_table.specs.Faults.{joined, assigned_faults, part_faults, handler_faults}
use Rattle.class_table.proofs.assigned.+assigned.Given as goal

abbrev pub invariant-note_block-statements : goal.invariant-note_block-statements
invariant-note_block-statements l = l.found.items ≡ l.fn.found.items ++ joined (map assigned_faults (take l.s-index l.s-items))

abbrev pub invariant-note_parts-parts : goal.invariant-note_parts-parts
invariant-note_parts-parts l = l.found.items ≡ l.fn.found.items ++ joined (map part_faults (take l.part-index l.part-items))

abbrev pub invariant-note_handlers-handlers : goal.invariant-note_handlers-handlers
invariant-note_handlers-handlers l = l.found.items ≡ l.fn.found.items ++ joined (map handler_faults (take l.handler-index l.handler-items))
