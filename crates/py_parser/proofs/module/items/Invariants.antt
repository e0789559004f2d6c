use Rattle.std.proofs.Common.{◌≡◌, ◌≤◌, List, [], ◌∷◌, length}
use Rattle.py_grammar.specs.Symbols.{Sym, Value, vitems, items}
use Rattle.py_grammar.specs.Machine.{run}
use Rattle.py_parser.proofs.module.items.Given as goal

abbrev pub invariant-items : goal.invariant-items
invariant-items l = record { shorter : length l.rest ≤ length l.fn.ts; leads : (S : List Sym) (V : List Value) → run l.fn.ts (items ∷ S) (vitems [] ∷ V) ≡ run l.rest (items ∷ S) (vitems l.list ∷ V) }

abbrev pub decreases-items : goal.decreases-items
decreases-items l = length l.rest
