-- What the functions do that make two values.
use Rattle.std.specs.Prelude.{List, ◌∷◌, ◌++◌, ◌≡◌, Result, Ok, Err}
use Rattle.py_tokens.specs.declared.Token.{Token}
use Rattle.py_grammar.specs.Symbols.{Value, Sym}
use Rattle.py_grammar.specs.Machine.{run}
use Rattle.expr_parser.specs.Leads.{out_at}
use Rattle.expr_parser.specs.declared.fault.Refused.{Refused}
use Rattle.expr_parser.specs.declared.fault.Refused.TheVariants as refusals

-- The machine makes these two values from these symbols, the first of them first, unless memory ran out.
abbrev pub LeadsToTwo : {T : Type 0} → List Sym → List Token → (T → Value) → (T → Value) → (T → List Token) → Result T Refused → Type 0
LeadsToTwo X ts first second rest (Ok x) = (S : List Sym) (V : List Value) → run ts (X ++ S) V ≡ run (rest x) S (second x ∷ first x ∷ V)
LeadsToTwo X ts first second rest (Err f) = (f ≡ refusals.OutOfMemory → ⊥) → (S : List Sym) (V : List Value) → run ts (X ++ S) V ≡ out_at f
