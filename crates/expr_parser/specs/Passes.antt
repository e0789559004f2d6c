-- What the functions do that make no value.
use Rattle.std.specs.Prelude.{List, ◌++◌, ◌≡◌, Result, Ok, Err}
use Rattle.py_tokens.specs.declared.Token.{Token}
use Rattle.py_grammar.specs.Symbols.{Value, Fixed, newline, indent, colon, assign, arrow, open_paren, close_paren, close_bracket, word_def, word_import, Sym}
use Rattle.py_grammar.specs.Machine.{run}
use Rattle.expr_parser.specs.Leads.{out_at}
use Rattle.expr_parser.specs.declared.fault.Refused.{Refused}
use Rattle.expr_parser.specs.declared.fault.Refused.TheVariants as refusals
use Rattle.expr_parser.specs.declared.fixed.Wanted.{Wanted}
use Rattle.expr_parser.specs.declared.fixed.Wanted.TheVariants as wants

-- The machine goes past these symbols and makes nothing, unless memory ran out.
abbrev pub Passes : {T : Type 0} → List Sym → List Token → (T → List Token) → Result T Refused → Type 0
Passes X ts rest (Ok x) = (S : List Sym) (V : List Value) → run ts (X ++ S) V ≡ run (rest x) S V
Passes X ts rest (Err f) = (f ≡ refusals.OutOfMemory → ⊥) → (S : List Sym) (V : List Value) → run ts (X ++ S) V ≡ out_at f

-- the machine's name of a token that is wanted
abbrev pub fixed_of : Wanted → Fixed
fixed_of wants.Newline = newline
fixed_of wants.Indent = indent
fixed_of wants.Colon = colon
fixed_of wants.Assign = assign
fixed_of wants.Arrow = arrow
fixed_of wants.OpenParen = open_paren
fixed_of wants.CloseParen = close_paren
fixed_of wants.CloseBracket = close_bracket
fixed_of wants.Def = word_def
fixed_of wants.Import = word_import
