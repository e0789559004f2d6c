use Rattle.std.proofs.Common.{◌≡◌, ◌≤◌, ◌+◌, ◌-◌, length, drop}
use Rattle.std.specs.List.{prefix_len}
use Rattle.py_lexer.specs.LongestForms.{is_in_line}
use Rattle.py_lexer.proofs.comments.line_len.Given as goal

abbrev pub invariant-loop-n : goal.invariant-loop-n
invariant-loop-n l = record { within : l.n ≤ length l.codes; so_far : prefix_len is_in_line l.codes ≡ l.n + prefix_len is_in_line (drop l.n l.codes) }

abbrev pub decreases-loop-n : goal.decreases-loop-n
decreases-loop-n l = length l.codes - l.n
