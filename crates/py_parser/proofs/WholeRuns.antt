-- A run of the machine over all tokens, from where a module's reader stops.
use Rattle.std.proofs.Common.{◌≡◌, refl, ◌∙◌, ap, List, [], ◌∷◌}
use Rattle.py_tokens.specs.declared.Token.{Token}
use Rattle.raw_syntax.specs.declared.Raw.{Raw}
use Rattle.py_grammar.specs.Symbols.{Sym, Value, vitems, vmodule, doc, imports, items}
use Rattle.py_grammar.specs.Machine.{bad, done, run, run_module}

-- it reads the module and leaves these tokens
abbrev pub Leaves : List Token → Raw → List Token → Type 0
Leaves ts tree rest = (S : List Sym) (V : List Value) → run ts (doc ∷ imports ∷ items ∷ S) (vitems [] ∷ V) ≡ run rest S (vmodule tree ∷ V)

nothing_left : (V : List Value) → run [] [] V ≡ done V
unfolding run
nothing_left V = refl

one_left : (k : Token) (more : List Token) (V : List Value) → run (k ∷ more) [] V ≡ bad k.place
unfolding run
one_left k more V = refl

pub whole : (ts rest : List Token) (tree : Raw) → Leaves ts tree rest → rest ≡ [] → run_module ts ≡ done (vmodule tree ∷ [])
whole ts rest tree leads is = leads [] [] ∙ ap (λ (us : List Token). run us [] (vmodule tree ∷ [])) is ∙ nothing_left (vmodule tree ∷ [])

pub left : (ts rest : List Token) (tree : Raw) (k : Token) (more : List Token) → Leaves ts tree rest → rest ≡ k ∷ more → run_module ts ≡ bad k.place
left ts rest tree k more leads is = leads [] [] ∙ ap (λ (us : List Token). run us [] (vmodule tree ∷ [])) is ∙ one_left k more (vmodule tree ∷ [])
