-- What the machine wants and what it has made. It is a device of the proofs: the grammar doesn't speak of it.
use Rattle.std.specs.Prelude.{ℕ, Bool, true, false, List, Option}
use Rattle.py_base.specs.declared.Place.{Place}
use Rattle.py_tokens.specs.declared.TokenForm.{TokenForm}
use Rattle.py_tokens.specs.declared.TokenForm.TheVariants as forms
use Rattle.py_tokens.specs.declared.Keyword.TheVariants as keys
use Rattle.py_tokens.specs.declared.Mark.TheVariants as marks
use Rattle.raw_syntax.specs.declared.RawExpr.{RawExpr}
use Rattle.raw_syntax.specs.declared.RawComparison.{RawComparison}
use Rattle.raw_syntax.specs.declared.RawArgument.{RawArgument}
use Rattle.raw_syntax.specs.declared.RawTy.{RawTy}
use Rattle.raw_syntax.specs.declared.RawStmt.{RawStmt}
use Rattle.raw_syntax.specs.declared.RawElif.{RawElif}
use Rattle.raw_syntax.specs.declared.RawHandler.{RawHandler}
use Rattle.raw_syntax.specs.declared.RawParam.{RawParam}
use Rattle.raw_syntax.specs.declared.RawFunc.{RawFunc}
use Rattle.raw_syntax.specs.declared.RawItem.{RawItem}
use Rattle.raw_syntax.specs.declared.Raw.{Raw}

pub data Value : Type 0 where
  vexpr : RawExpr → Value
  vexprs : List RawExpr → Value
  vargs : List RawArgument → Value
  vlinks : List RawComparison → Value
  vname : Place → List ℕ → Value
  vty : RawTy → Value
  vstmt : RawStmt → Value
  vstmts : List RawStmt → Value
  velifs : List RawElif → Value
  vhandlers : List RawHandler → Value
  vparams : List RawParam → Value
  vmarks : List (List ℕ) → Value
  vfunc : RawFunc → Value
  vfuncs : List RawFunc → Value
  vbase : Option RawTy → Value
  vitems : List RawItem → Value
  vmodule : Raw → Value

-- The tokens that are wanted as they are.
pub data Fixed : Type 0 where
  newline : Fixed
  indent : Fixed
  colon : Fixed
  assign : Fixed
  arrow : Fixed
  open_paren : Fixed
  close_paren : Fixed
  close_bracket : Fixed
  word_def : Fixed
  word_import : Fixed

abbrev pub form_of : Fixed → TokenForm
form_of newline = forms.Newline
form_of indent = forms.Indent
form_of colon = forms.Mark marks.Colon
form_of assign = forms.Mark marks.Assign
form_of arrow = forms.Mark marks.Arrow
form_of open_paren = forms.Mark marks.OpenParen
form_of close_paren = forms.Mark marks.CloseParen
form_of close_bracket = forms.Mark marks.CloseBracket
form_of word_def = forms.Key keys.Def
form_of word_import = forms.Key keys.Import

-- The token is the one that is wanted.
abbrev pub fits : Fixed → TokenForm → Bool
fits newline forms.Newline = true
fits indent forms.Indent = true
fits colon (forms.Mark marks.Colon) = true
fits assign (forms.Mark marks.Assign) = true
fits arrow (forms.Mark marks.Arrow) = true
fits open_paren (forms.Mark marks.OpenParen) = true
fits close_paren (forms.Mark marks.CloseParen) = true
fits close_bracket (forms.Mark marks.CloseBracket) = true
fits word_def (forms.Key keys.Def) = true
fits word_import (forms.Key keys.Import) = true
fits x f = false

-- What may be wanted: a token, something of the newest values, an operand, what may follow one, or a part of the grammar.
pub data Sym : Type 0 where
  fixed : Fixed → Sym
  make : (List Value → List Value) → Sym
  want_name : Sym
  neg : Sym
  un : Sym
  tail_post : Sym
  tail_prod : Sym
  tail_sum : Sym
  tail_cmp : Sym
  is_tail : Place → Sym
  links : Sym
  tail_and : Sym
  tail_or : Sym
  in_bracket : Place → Sym
  bracket_tail : Place → Sym
  elements : Place → Sym
  elements_tail : Place → Sym
  args : Sym
  arg_tail : Sym
  args_tail : Sym
  ty_atom : Sym
  ty_tail : Sym
  simple : Sym
  return_tail : Place → Sym
  simple_tail : Place → Sym
  stmt : Sym
  block : Sym
  stmts : Sym
  elifs : Sym
  else_part : Sym
  finally_part : Sym
  try_tail : Place → Sym
  handlers : Sym
  params : Sym
  param_tail : Sym
  params_tail : Sym
  decorators : Sym
  members : Sym
  class_body : Sym
  doc : Sym
  base : Sym
  in_base : Sym
  base_tail : Sym
  any_name : Sym
  dots : Sym
  commas : Sym
  imported : Sym
  imports : Sym
  items : Sym

-- What one token does at a symbol: it is taken, and other symbols and values stand for this one, or it isn't wanted
-- here and the symbol makes what it can and is done, or nothing goes on with it.
pub data Move : Type 0 where
  take : List Sym → List Value → Move
  skip : Move
  stop : Move
