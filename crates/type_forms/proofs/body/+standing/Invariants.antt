use Rattle.std.proofs.Common.{◌≡◌, ◌++◌, map, take}
use Rattle.type_base.specs.Faults.{joined}
use Rattle.type_forms.specs.Statements.{in_block, standing, part_standing, handler_standing}
use Rattle.type_forms.proofs.body.+standing.Given as goal

abbrev pub invariant-note_block-statements : goal.invariant-note_block-statements
invariant-note_block-statements l = l.found ≡ l.fn.found ++ in_block (map (standing l.fn.classes l.fn.params l.fn.names l.fn.void) (take l.s-index l.s-items))

abbrev pub invariant-note_parts-parts : goal.invariant-note_parts-parts
invariant-note_parts-parts l = l.found ≡ l.fn.found ++ joined (map (part_standing l.fn.classes l.fn.params l.fn.names l.fn.void) (take l.part-index l.part-items))

abbrev pub invariant-note_handlers-handlers : goal.invariant-note_handlers-handlers
invariant-note_handlers-handlers l = l.found ≡ l.fn.found ++ joined (map (handler_standing l.fn.classes l.fn.params l.fn.names l.fn.void) (take l.handler-index l.handler-items))
