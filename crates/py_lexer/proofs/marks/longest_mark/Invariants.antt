use Rattle.std.proofs.Common.{take}
use Rattle.py_lexer.specs.LongestForms.{IsLongestOf}
use Rattle.py_lexer.proofs.marks.longest_mark.Given as goal

abbrev pub invariant-loop-mark : goal.invariant-loop-mark
invariant-loop-mark l = IsLongestOf l.codes (take l.mark-index l.marks) l.best
