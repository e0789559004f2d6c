use Rattle.std.proofs.Common.{length, string_bytes}
use Rattle.py_lexer.specs.StringReading.{quotes_of, HasRead}
use Rattle.py_lexer.proofs.strings.read_parts.Given as goal

abbrev pub invariant-parts : goal.invariant-parts
invariant-parts l = HasRead (quotes_of l.opening) l.codes (string_bytes l.text) l.rest

abbrev pub decreases-parts : goal.decreases-parts
decreases-parts l = length l.rest
