-- What the machine does with a token that so begins a block, a list of statements, a statement, or the end of `try`.
use Rattle.std.specs.Prelude.{[], ◌∷◌, ◌≡◌}
use Rattle.py_base.specs.declared.Place.{Place}
use Rattle.py_tokens.specs.declared.TokenForm.{TokenForm}
use Rattle.py_tokens.specs.declared.TokenForm.TheVariants as forms
use Rattle.py_tokens.specs.declared.Keyword.TheVariants as keys
use Rattle.py_grammar.specs.Symbols.{newline, fixed, make, stmts, stop}
use Rattle.py_grammar.specs.Makers.{make_only, make_next}
use Rattle.py_grammar.specs.Moves.{and_then, next_simple, next_stmt, next_block, next_stmts, next_try}
use Rattle.py_parser.specs.declared.lead.BlockStart.{BlockStart}
use Rattle.py_parser.specs.declared.lead.BlockStart.TheVariants as blocks
use Rattle.py_parser.specs.declared.lead.ListStart.{ListStart}
use Rattle.py_parser.specs.declared.lead.ListStart.TheVariants as lists
use Rattle.py_parser.specs.declared.lead.StmtStart.{StmtStart}
use Rattle.py_parser.specs.declared.lead.StmtStart.TheVariants as starts
use Rattle.py_parser.specs.declared.lead.TailStart.{TailStart}
use Rattle.py_parser.specs.declared.lead.TailStart.TheVariants as tails

abbrev pub BlockBegins : BlockStart → Place → TokenForm → Type 0
BlockBegins blocks.Lines p f = f ≡ forms.Newline
BlockBegins blocks.Line p f = next_block p f ≡ and_then (next_simple p f) (fixed newline ∷ make make_only ∷ [])

abbrev pub ListBegins : ListStart → Place → TokenForm → Type 0
ListBegins lists.End p f = f ≡ forms.Dedent
ListBegins lists.More p f = next_stmts p f ≡ and_then (next_stmt p f) (make make_next ∷ stmts ∷ [])

abbrev pub StmtBegins : StmtStart → Place → TokenForm → Type 0
StmtBegins starts.If p f = f ≡ forms.Key keys.If
StmtBegins starts.While p f = f ≡ forms.Key keys.While
StmtBegins starts.Try p f = f ≡ forms.Key keys.Try
StmtBegins starts.With p f = f ≡ forms.Key keys.With
StmtBegins starts.Line p f = next_stmt p f ≡ and_then (next_simple p f) (fixed newline ∷ [])

abbrev pub TailBegins : TailStart → TokenForm → Type 0
TailBegins tails.Except f = f ≡ forms.Key keys.Except
TailBegins tails.Finally f = f ≡ forms.Key keys.Finally
TailBegins tails.Other f = (q : Place) → next_try q f ≡ stop
