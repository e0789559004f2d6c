use Rattle.std.proofs.Common.{◌≡◌, ◌++◌}
use Rattle.class_table.specs.ClassList.{numbers_from}
use Rattle.class_table.proofs.class_list.numbers_from.Given as goal

abbrev pub invariant-numbers : goal.invariant-numbers
invariant-numbers l = l.numbers ++ numbers_from l.next l.left ≡ numbers_from l.start l.count

abbrev pub decreases-numbers : goal.decreases-numbers
decreases-numbers l = l.left
