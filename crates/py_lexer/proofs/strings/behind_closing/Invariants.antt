use Rattle.std.proofs.Common.{List, length}
use Rattle.py_tokens.specs.StringForms.{Part, GoesOn}
use Rattle.py_lexer.specs.StringReading.{quotes_of}
use Rattle.py_lexer.proofs.strings.behind_closing.Given as goal

abbrev pub invariant-parts : goal.invariant-parts
invariant-parts l = (parts : List Part) × GoesOn (quotes_of l.opening) l.codes parts l.rest

abbrev pub decreases-parts : goal.decreases-parts
decreases-parts l = length l.rest
