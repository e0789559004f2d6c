use Rattle.std.proofs.Common.{◌≤◌, length}
use Rattle.py_parser.specs.Limits.{HasLongLine}
use Rattle.py_parser.proofs.LongLines.{LongFrom}
use Rattle.py_parser.proofs.long.has_long_line.Given as goal

abbrev pub invariant-tokens : goal.invariant-tokens
invariant-tokens l = record { low : l.count ≤ 2000; forth : HasLongLine 2000 l.fn.ts → LongFrom 2000 l.count l.rest; back : LongFrom 2000 l.count l.rest → HasLongLine 2000 l.fn.ts }

abbrev pub decreases-tokens : goal.decreases-tokens
decreases-tokens l = length l.rest
