-- What each function of the parser does, said by the machine of the grammar.
use Rattle.std.specs.Prelude.{List, [], ◌∷◌, ◌++◌, ◌≡◌, Result, Ok, Err, Option, Some, None}
use Rattle.py_base.specs.declared.Place.{Place}
use Rattle.py_tokens.specs.declared.Token.{Token}
use Rattle.py_tokens.specs.declared.TokenForm.{TokenForm}
use Rattle.raw_syntax.specs.declared.RawComparison.{RawComparison}
use Rattle.py_tokens.specs.declared.TokenForm.TheVariants as forms
use Rattle.py_tokens.specs.declared.Mark.TheVariants as marks
use Rattle.py_grammar.specs.Symbols.{Value, vexpr, Sym, make, un, tail_post, in_bracket, is_tail, take, skip, stop}
use Rattle.py_grammar.specs.Makers.{make_negate}
use Rattle.py_grammar.specs.Moves.{next_un, next_link, next_args_tail, next_bracket, next_element, compare_with}
use Rattle.py_grammar.specs.Machine.{Out, bad, short, run}
use Rattle.expr_parser.specs.declared.fault.Refused.{Refused}
use Rattle.expr_parser.specs.declared.fault.Refused.TheVariants as refusals
use Rattle.expr_parser.specs.declared.start.Start.{Start}
use Rattle.expr_parser.specs.declared.start.Start.TheVariants as starts
use Rattle.expr_parser.specs.declared.start.LinkStart.{LinkStart}
use Rattle.expr_parser.specs.declared.start.LinkStart.TheVariants as linkings
use Rattle.expr_parser.specs.declared.start.Follow.{Follow}
use Rattle.expr_parser.specs.declared.start.Follow.TheVariants as follows

-- the machine's end at a refusal
abbrev pub out_at : Refused → Out
out_at (refusals.Syntax p) = bad p
out_at refusals.Unfinished = short
out_at refusals.OutOfMemory = short

-- What was returned is what the machine does from these symbols and values, whatever stands below, unless memory ran out.
abbrev pub LeadsFrom : {T : Type 0} → List Sym → List Value → List Token → (T → Value) → (T → List Token) → Result T Refused → Type 0
LeadsFrom X U ts val rest (Ok x) = (S : List Sym) (V : List Value) → run ts (X ++ S) (U ++ V) ≡ run (rest x) S (val x ∷ V)
LeadsFrom X U ts val rest (Err f) = (f ≡ refusals.OutOfMemory → ⊥) → (S : List Sym) (V : List Value) → run ts (X ++ S) (U ++ V) ≡ out_at f

-- The same, where these symbols are left.
abbrev pub LeadsTo : {T : Type 0} → List Sym → List Value → List Token → List Sym → Value → (T → List Token) → Result T Refused → Type 0
LeadsTo X U ts Y v rest (Ok x) = (S : List Sym) (V : List Value) → run ts (X ++ S) (U ++ V) ≡ run (rest x) (Y ++ S) (v ∷ V)
LeadsTo X U ts Y v rest (Err f) = (f ≡ refusals.OutOfMemory → ⊥) → (S : List Sym) (V : List Value) → run ts (X ++ S) (U ++ V) ≡ out_at f

-- what stands for an operator of a chain once its first token is taken
abbrev pub link_symbols : Place → LinkStart → List Sym
link_symbols p linkings.Is = is_tail p ∷ []
link_symbols p (linkings.Plain c) = compare_with p c

-- The links have a first one, and its operator stands here.
abbrev pub BeginsWith : Place → List RawComparison → Type 0
BeginsWith p [] = ⊥
BeginsWith p (l ∷ ls) = l.place ≡ p

-- An operand begins so with the token of this form at this place.
abbrev pub StartsWith : Start → Place → TokenForm → Type 0
StartsWith starts.Minus p f = next_un p f ≡ take (un ∷ make (make_negate p) ∷ []) []
StartsWith starts.Open p f = next_un p f ≡ take (in_bracket p ∷ tail_post ∷ []) []
StartsWith (starts.Leaf e) p f = next_un p f ≡ take (tail_post ∷ []) (vexpr e ∷ [])
StartsWith starts.Other p f = next_un p f ≡ stop

-- A link of a chain begins so with the token of this form at this place.
abbrev pub LinksBy : Option LinkStart → Place → TokenForm → Type 0
LinksBy None p f = (vs : List Value) → next_link vs p f ≡ skip
LinksBy (Some c) p f = (vs : List Value) → next_link vs p f ≡ take (link_symbols p c) vs

-- The token of this form so follows a part of a list in brackets.
abbrev pub Follows : Follow → TokenForm → Type 0
Follows follows.Close f = f ≡ forms.Mark marks.CloseParen
Follows follows.Comma f = f ≡ forms.Mark marks.Comma
Follows follows.Other f = (q : Place) → (next_args_tail f ≡ stop) × (next_bracket q f ≡ stop) × (next_element q f ≡ stop)
