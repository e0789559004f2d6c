use Rattle.std.proofs.Common.{◌≡◌, ◌≤◌, List, ◌∷◌, length}
use Rattle.py_grammar.specs.Symbols.{Sym, Value, commas}
use Rattle.py_grammar.specs.Machine.{run}
use Rattle.py_parser.proofs.skipped.commas.Given as goal

abbrev pub invariant-commas : goal.invariant-commas
invariant-commas l = record { shorter : length l.rest ≤ length l.fn.ts; leads : (S : List Sym) (V : List Value) → run l.fn.ts (commas ∷ S) V ≡ run l.rest (commas ∷ S) V }

abbrev pub decreases-commas : goal.decreases-commas
decreases-commas l = length l.rest
