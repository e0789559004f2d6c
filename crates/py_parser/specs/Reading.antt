-- What a reading of all tokens says of them.
use Rattle.std.specs.Prelude.{List, [], ◌∷◌, ◌++◌, ◌≡◌, Result, Ok, Err}
use Rattle.py_tokens.specs.declared.Token.{Token}
use Rattle.py_tokens.specs.declared.TokenForm.TheVariants as forms
use Rattle.raw_syntax.specs.declared.Raw.{Raw}
use Rattle.expr_parser.specs.declared.fault.Refused.{Refused}
use Rattle.expr_parser.specs.declared.fault.Refused.TheVariants as refusals
use Rattle.py_grammar.specs.Spelling.{Spells, BeginsModule, IsFirstBad}

-- The last token is the end of a text.
abbrev pub IsEnded : List Token → Type 0
IsEnded ts = (before : List Token) × (k : Token) × (ts ≡ before ++ k ∷ []) × (k.form ≡ forms.End)

-- They spell the tree, or the first with which no module goes on stands here, or they are the front of a module and don't
-- end a text.
abbrev pub IsReading : List Token → Result Raw Refused → Type 0
IsReading ts (Ok tree) = Spells ts tree
IsReading ts (Err (refusals.Syntax p)) = IsFirstBad ts p
IsReading ts (Err refusals.Unfinished) = BeginsModule ts × ¬ (IsEnded ts)
IsReading ts (Err refusals.OutOfMemory) = Unit {0}
