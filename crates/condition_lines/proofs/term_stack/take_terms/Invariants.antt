use Rattle.std.proofs.Common.{◌≡◌, ◌+◌, ◌++◌, map, length}
use Rattle.condition_lines.specs.Written.{joined, words_of, stacked}
use Rattle.condition_lines.proofs.term_stack.take_terms.Given as goal

abbrev pub invariant-loop-taken : goal.invariant-loop-taken
invariant-loop-taken l =
    (joined (map words_of l.initial.all) ++ stacked l.initial.stack ≡ joined (map words_of l.all) ++ stacked l.stack) × (length l.all ≡ length l.initial.all + l.taken)
