-- A machine with a stack of what is wanted and a stack of what is made, one token a step.
use Rattle.std.specs.Prelude.{Bool, true, false, List, [], ◌∷◌, ◌++◌, Option, Some, None, if◌then◌else◌}
use Rattle.py_base.specs.declared.Place.{Place}
use Rattle.py_tokens.specs.declared.Token.{Token}
use Rattle.py_grammar.specs.Symbols.{Value, vitems, Sym, make, doc, imports, items, Move, take, skip, stop}
use Rattle.py_grammar.specs.Moves.{next, made}

abbrev pub then_do : Move → (List Sym → List Value → Option (List Sym × List Value)) → Option (List Sym × List Value) → Option (List Sym × List Value)
then_do (take ys vs) f s = f ys vs
then_do skip f s = s
then_do stop f s = None

-- One token: the symbols at which it isn't wanted make what they can, up to one that takes it.
abbrev pub step : List Sym → List Value → Token → Option (List Sym × List Value)
step [] V k = None
step (X ∷ S) V k = then_do (next X k.place k.form) (λ ys vs. Some (ys ++ S, vs ++ V)) (step S (made X V) k)

-- How a run ends: at a token that nothing goes on with, for want of tokens, or with all that was wanted.
pub data Out : Type 0 where
  bad : Place → Out
  short : Out
  done : List Value → Out

-- The symbol only makes something.
abbrev pub is_make : Sym → Bool
is_make (make g) = true
is_make X = false

-- What needs no further token is made at the end too.
abbrev pub settle : List Sym → List Value → Out
settle [] V = done V
settle (X ∷ S) V = if is_make X then settle S (made X V) else short

unfoldable pub run : List Token → List Sym → List Value → Out
run [] S V = settle S V
run (k ∷ ts) S V = elim (step S V k) as (λ _. Out) [
  | None ↦ bad k.place
  | Some c ↦ run ts c.0 c.1
]

-- A whole module.
abbrev pub run_module : List Token → Out
run_module ts = run ts (doc ∷ imports ∷ items ∷ []) (vitems [] ∷ [])
