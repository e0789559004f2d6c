use Rattle.std.proofs.Common.{◌≡◌, ◌≤◌, List, ◌∷◌, length}
use Rattle.py_grammar.specs.Symbols.{Sym, Value, imports}
use Rattle.py_grammar.specs.Machine.{run}
use Rattle.py_parser.proofs.skipped.imports.Given as goal

abbrev pub invariant-imports : goal.invariant-imports
invariant-imports l = record { shorter : length l.rest ≤ length l.fn.ts; leads : (S : List Sym) (V : List Value) → run l.fn.ts (imports ∷ S) V ≡ run l.rest (imports ∷ S) V }

abbrev pub decreases-imports : goal.decreases-imports
decreases-imports l = length l.rest
