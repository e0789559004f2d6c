use Rattle.std.proofs.Common.{◌≡◌, ◌++◌, length}
use Rattle.py_lexer.specs.Walk.{dedents_of, left_of}
use Rattle.py_lexer.proofs.layout.close.Given as goal

abbrev pub invariant-widths : goal.invariant-widths
invariant-widths l = record {
  tokens : l.tokens.items ++ dedents_of l.place l.width l.widths ≡ l.initial.tokens.items ++ dedents_of l.place l.width l.initial.widths;
  left : left_of l.width l.widths ≡ left_of l.width l.initial.widths;
}

abbrev pub decreases-widths : goal.decreases-widths
decreases-widths l = length l.widths
