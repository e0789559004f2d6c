use Rattle.std.proofs.Common.{◌≡◌, ◌+◌, map, sum, drop}
use Rattle.py_parser.specs.Counts.{statements_in, statements_in_part, statements_in_handler}
use Rattle.py_parser.proofs.count.+count.Given as goal

abbrev pub invariant-without_block-statements : goal.invariant-without_block-statements
invariant-without_block-statements l = l.fn.left + sum (map statements_in (drop l.s-index l.s-items)) ≡ l.more + sum (map statements_in l.s-items)

abbrev pub invariant-without_handlers-handlers : goal.invariant-without_handlers-handlers
invariant-without_handlers-handlers l = l.fn.left + sum (map statements_in_handler (drop l.handler-index l.handler-items)) ≡ l.more + sum (map statements_in_handler l.handler-items)

abbrev pub invariant-without_parts-parts : goal.invariant-without_parts-parts
invariant-without_parts-parts l = l.fn.left + sum (map statements_in_part (drop l.part-index l.part-items)) ≡ l.more + sum (map statements_in_part l.part-items)
