use Rattle.std.proofs.Common.{◌≡◌, map, drop}
use Rattle.class_table.specs.Values.{every}
use Rattle.type_ways.specs.Ends.{some, may_end, part_may_end, handler_may_end}
use Rattle.type_ways.proofs.ending.+ends.Given as goal

abbrev pub invariant-block_may_end-statements : goal.invariant-block_may_end-statements
invariant-block_may_end-statements l = every (map may_end (drop l.s-index l.s-items)) ≡ every (map may_end l.s-items)

abbrev pub invariant-some_part_may_end-parts : goal.invariant-some_part_may_end-parts
invariant-some_part_may_end-parts l = some (map part_may_end (drop l.part-index l.part-items)) ≡ some (map part_may_end l.part-items)

abbrev pub invariant-some_handler_may_end-handlers : goal.invariant-some_handler_may_end-handlers
invariant-some_handler_may_end-handlers l = some (map handler_may_end (drop l.handler-index l.handler-items)) ≡ some (map handler_may_end l.handler-items)
