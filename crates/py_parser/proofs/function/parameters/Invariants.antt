use Rattle.std.proofs.Common.{◌≡◌, ◌≤◌, List, [], ◌∷◌, length}
use Rattle.py_grammar.specs.Symbols.{Sym, Value, vparams, params}
use Rattle.py_grammar.specs.Machine.{run}
use Rattle.py_parser.proofs.function.parameters.Given as goal

abbrev pub invariant-list : goal.invariant-list
invariant-list l = record { shorter : length l.rest ≤ length l.fn.ts; leads : (S : List Sym) (V : List Value) → run l.fn.ts (params ∷ S) (vparams [] ∷ V) ≡ run l.rest (params ∷ S) (vparams l.list ∷ V) }

abbrev pub decreases-list : goal.decreases-list
decreases-list l = length l.rest
