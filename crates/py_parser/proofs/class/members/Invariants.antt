use Rattle.std.proofs.Common.{◌≡◌, ◌≤◌, List, [], ◌∷◌, length}
use Rattle.py_grammar.specs.Symbols.{Sym, Value, vfuncs, members}
use Rattle.py_grammar.specs.Machine.{run}
use Rattle.py_parser.proofs.class.members.Given as goal

abbrev pub invariant-members : goal.invariant-members
invariant-members l = record { shorter : length l.rest ≤ length l.fn.ts; leads : (S : List Sym) (V : List Value) → run l.fn.ts (members ∷ S) (vfuncs [] ∷ V) ≡ run l.rest (members ∷ S) (vfuncs l.list ∷ V) }

abbrev pub decreases-members : goal.decreases-members
decreases-members l = length l.rest
