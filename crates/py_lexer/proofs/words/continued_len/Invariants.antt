use Rattle.std.proofs.Common.{◌≡◌, ◌≤◌, ◌+◌, ◌-◌, length, drop}
use Rattle.std.specs.List.{prefix_len}
use Rattle.unicode_ident.specs.Ident.{is_xid_continue}
use Rattle.py_lexer.proofs.words.continued_len.Given as goal

abbrev pub invariant-loop-n : goal.invariant-loop-n
invariant-loop-n l = record { within : l.n ≤ length l.codes; so_far : prefix_len is_xid_continue l.codes ≡ l.n + prefix_len is_xid_continue (drop l.n l.codes) }

abbrev pub decreases-loop-n : goal.decreases-loop-n
decreases-loop-n l = length l.codes - l.n
