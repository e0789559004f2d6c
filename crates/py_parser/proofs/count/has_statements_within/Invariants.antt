use Rattle.std.proofs.Common.{◌≡◌, ◌+◌, map, sum, drop}
use Rattle.py_parser.specs.Counts.{statements_of_item}
use Rattle.py_parser.proofs.count.has_statements_within.Given as goal

abbrev pub invariant-items : goal.invariant-items
invariant-items l = l.fn.limit + sum (map statements_of_item (drop l.item-index l.item-items)) ≡ l.left + sum (map statements_of_item l.item-items)
