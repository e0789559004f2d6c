use Rattle.std.proofs.Common.{◌≡◌, map, drop}
use Rattle.type_ways.specs.Ways.{block_after, each_after, way, part_way, handler_way}
use Rattle.type_ways.proofs.way.+after.Given as goal

abbrev pub invariant-block_settles-statements : goal.invariant-block_settles-statements
invariant-block_settles-statements l = block_after (map (way l.fn.name) (drop l.s-index l.s-items)) l.state ≡ block_after (map (way l.fn.name) l.s-items) l.fn.settled

abbrev pub invariant-parts_settle-parts : goal.invariant-parts_settle-parts
invariant-parts_settle-parts l = each_after (map (part_way l.fn.name) (drop l.part-index l.part-items)) l.fn.settled ≡ each_after (map (part_way l.fn.name) l.part-items) l.fn.settled

abbrev pub invariant-handlers_settle-handlers : goal.invariant-handlers_settle-handlers
invariant-handlers_settle-handlers l = each_after (map (handler_way l.fn.name) (drop l.handler-index l.handler-items)) l.fn.settled ≡ each_after (map (handler_way l.fn.name) l.handler-items) l.fn.settled
