use Rattle.std.proofs.Common.{◌≡◌, ◌≤◌, List, ◌∷◌, length}
use Rattle.py_grammar.specs.Symbols.{Sym, Value, dots}
use Rattle.py_grammar.specs.Machine.{run}
use Rattle.py_parser.proofs.skipped.dots.Given as goal

abbrev pub invariant-dots : goal.invariant-dots
invariant-dots l = record { shorter : length l.rest ≤ length l.fn.ts; leads : (S : List Sym) (V : List Value) → run l.fn.ts (dots ∷ S) V ≡ run l.rest (dots ∷ S) V }

abbrev pub decreases-dots : goal.decreases-dots
decreases-dots l = length l.rest
