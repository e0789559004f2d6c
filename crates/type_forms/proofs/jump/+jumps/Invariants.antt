use Rattle.std.proofs.Common.{◌≡◌, ◌++◌, map, take}
use Rattle.type_forms.specs.Jumps.{all_jumps, jumps, part_jumps, handler_jumps}
use Rattle.type_forms.proofs.jump.+jumps.Given as goal

abbrev pub invariant-note_block-statements : goal.invariant-note_block-statements
invariant-note_block-statements l = l.found ≡ l.fn.found ++ all_jumps (map jumps (take l.s-index l.s-items)) l.fn.looped l.fn.guarded

abbrev pub invariant-note_parts-parts : goal.invariant-note_parts-parts
invariant-note_parts-parts l = l.found ≡ l.fn.found ++ all_jumps (map part_jumps (take l.part-index l.part-items)) l.fn.looped l.fn.guarded

abbrev pub invariant-note_handlers-handlers : goal.invariant-note_handlers-handlers
invariant-note_handlers-handlers l = l.found ≡ l.fn.found ++ all_jumps (map handler_jumps (take l.handler-index l.handler-items)) l.fn.looped l.fn.guarded
