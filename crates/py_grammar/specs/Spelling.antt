-- The tokens of a tree, and the first token that goes on with none.
use Rattle.std.specs.Prelude.{List, [], ◌∷◌, ◌++◌, ◌≡◌}
use Rattle.py_base.specs.declared.Place.{Place}
use Rattle.py_tokens.specs.declared.Token.{Token}
use Rattle.raw_syntax.specs.declared.Raw.{Raw}
use Rattle.py_grammar.specs.ModuleGrammar.{ReadsModule}

-- The tokens are a spelling of the tree, and no more.
abbrev pub Spells : List Token → Raw → Type 0
Spells ts tree = ReadsModule tree ts []

-- The tokens begin a module: some longer or equal list spells one.
abbrev pub BeginsModule : List Token → Type 0
BeginsModule ts = (more : List Token) × (tree : Raw) × Spells (ts ++ more) tree

-- The place is that of the first token such that the tokens up to and with it begin no module.
abbrev pub IsFirstBad : List Token → Place → Type 0
IsFirstBad ts p = (before after : List Token) × (k : Token) × (ts ≡ before ++ k ∷ after) × (k.place ≡ p) × BeginsModule before × (BeginsModule (before ++ k ∷ []) → ⊥)
