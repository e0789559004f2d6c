use Rattle.std.proofs.Common.{◌≡◌, ◌≤◌, take, drop, length}
use Rattle.py_lexer.specs.LongestForms.{AreMoreDigits}
use Rattle.py_lexer.proofs.numbers.more_digits_len.Given as goal

abbrev pub invariant-digits : goal.invariant-digits
invariant-digits l = record { within : l.n ≤ length l.codes; behind : l.rest ≡ drop l.n l.codes; so_far : AreMoreDigits (take l.n l.codes) }

abbrev pub decreases-digits : goal.decreases-digits
decreases-digits l = length l.rest
