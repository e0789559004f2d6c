use Rattle.std.proofs.Common.{◌≡◌, ◌+◌, map, sum, drop}
use Rattle.py_parser.specs.Counts.{statements_of_function}
use Rattle.py_parser.proofs.count.without_members.Given as goal

abbrev pub invariant-members : goal.invariant-members
invariant-members l = l.fn.left + sum (map statements_of_function (drop l.member-index l.member-items)) ≡ l.more + sum (map statements_of_function l.member-items)
