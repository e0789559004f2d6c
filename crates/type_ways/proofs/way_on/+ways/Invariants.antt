use Rattle.std.proofs.Common.{◌≡◌, ◌++◌, map, take, drop}
use Rattle.type_ways.specs.Ways.{block_faults, each_faults, way, part_way, handler_way}
use Rattle.type_ways.proofs.way_on.+ways.Given as goal

abbrev pub invariant-note_block-statements : goal.invariant-note_block-statements
invariant-note_block-statements l = l.found ++ block_faults (map (way l.fn.name) (drop l.s-index l.s-items)) l.state ≡ l.fn.found ++ block_faults (map (way l.fn.name) l.s-items) l.fn.settled

abbrev pub invariant-note_parts-parts : goal.invariant-note_parts-parts
invariant-note_parts-parts l = l.found ≡ l.fn.found ++ each_faults (map (part_way l.fn.name) (take l.part-index l.part-items)) l.fn.settled

abbrev pub invariant-note_handlers-handlers : goal.invariant-note_handlers-handlers
invariant-note_handlers-handlers l = l.found ≡ l.fn.found ++ each_faults (map (handler_way l.fn.name) (take l.handler-index l.handler-items)) l.fn.settled
