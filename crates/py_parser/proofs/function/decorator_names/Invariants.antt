use Rattle.std.proofs.Common.{◌≡◌, ◌<◌, List, [], ◌∷◌, length}
use Rattle.py_grammar.specs.Symbols.{Sym, Value, vmarks, newline, fixed, make, want_name, decorators}
use Rattle.py_grammar.specs.Makers.{make_mark}
use Rattle.py_grammar.specs.Machine.{run}
use Rattle.py_parser.proofs.function.decorator_names.Given as goal

abbrev pub invariant-marks : goal.invariant-marks
invariant-marks l = record { shorter : length l.rest < length l.fn.ts; leads : (S : List Sym) (V : List Value) → run l.fn.ts (want_name ∷ make make_mark ∷ fixed newline ∷ decorators ∷ S) (vmarks [] ∷ V) ≡ run l.rest (decorators ∷ S) (vmarks l.list ∷ V) }

abbrev pub decreases-marks : goal.decreases-marks
decreases-marks l = length l.rest
