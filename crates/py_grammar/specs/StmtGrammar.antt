-- Which tokens spell a type, a statement and a block: one relation for each line of the grammar and one case for each
-- alternative. A statement's place is its first token.
use Rattle.std.specs.Prelude.{ℕ, List, [], ◌∷◌, Option, Some, None, codes}
use Rattle.py_base.specs.declared.Place.{Place}
use Rattle.py_tokens.specs.declared.Token.{Token}
use Rattle.py_tokens.specs.declared.TokenForm.TheVariants as forms
use Rattle.py_tokens.specs.declared.Keyword.TheVariants as keys
use Rattle.py_tokens.specs.declared.Mark.TheVariants as marks
use Rattle.raw_syntax.specs.declared.RawExpr.{RawExpr}
use Rattle.raw_syntax.specs.declared.Arithmetic.{Arithmetic}
use Rattle.raw_syntax.specs.declared.Arithmetic.TheVariants as signs
use Rattle.raw_syntax.specs.declared.RawTy.{RawTy}
use Rattle.raw_syntax.specs.declared.RawStmt.{RawStmt, roll-RawStmt}
use Rattle.raw_syntax.specs.declared.RawStmtForm.{RawStmtForm}
use Rattle.raw_syntax.specs.declared.RawStmtForm.TheVariants as stmts
use Rattle.raw_syntax.specs.declared.RawElif.{RawElif, roll-RawElif}
use Rattle.raw_syntax.specs.declared.RawHandler.{RawHandler, roll-RawHandler}
use Rattle.py_grammar.specs.TokenFronts.{Has, Past, BeginsAt}
use Rattle.py_grammar.specs.ExprGrammar.{ReadsExpr}

abbrev pub statement : Place → RawStmtForm → RawStmt
statement p form = roll-RawStmt (record { place = p; form = form })

abbrev pub elif_part : Place → RawExpr → List RawStmt → RawElif
elif_part p e ss = roll-RawElif (record { place = p; condition = e; body = ss })

abbrev pub handler : Place → List ℕ → List RawStmt → RawHandler
handler p n ss = roll-RawHandler (record { place = p; class = n; body = ss })

abbrev pub type_of : Place → List ℕ → Option (List ℕ) → RawTy
type_of p head inner = record { place = p; head = head; inner = inner }

-- tyatom = NAME | STRING | 'None'
pub data ReadsTyAtom : Place → List ℕ → List Token → List Token → Type 0 where
  type_name : {p : Place} {n : List ℕ} {ts rest : List Token} → Has p (forms.Name n) ts rest → ReadsTyAtom p n ts rest
  type_string : {p : Place} {n : List ℕ} {ts rest : List Token} → Has p (forms.Str n) ts rest → ReadsTyAtom p n ts rest
  type_none : {p : Place} {ts rest : List Token} → Has p (forms.Key keys.None) ts rest → ReadsTyAtom p (codes "None") ts rest

-- type = tyatom ['[' tyatom ']']
pub data ReadsTy : RawTy → List Token → List Token → Type 0 where
  only_head : {p : Place} {n : List ℕ} {ts rest : List Token} → ReadsTyAtom p n ts rest → ReadsTy (type_of p n None) ts rest
  head_of : {p q : Place} {n m : List ℕ} {ts a b c rest : List Token} → ReadsTyAtom p n ts a → Past (forms.Mark marks.OpenBracket) a b → ReadsTyAtom q m b c → Past (forms.Mark marks.CloseBracket) c rest → ReadsTy (type_of p n (Some m)) ts rest

-- AUG = '+=' | '-=' | '*=' | '//=' | '%='
pub data ReadsAug : Arithmetic → Place → List Token → List Token → Type 0 where
  plus_assign : {p : Place} {ts rest : List Token} → Has p (forms.Mark marks.PlusAssign) ts rest → ReadsAug signs.Plus p ts rest
  minus_assign : {p : Place} {ts rest : List Token} → Has p (forms.Mark marks.MinusAssign) ts rest → ReadsAug signs.Minus p ts rest
  times_assign : {p : Place} {ts rest : List Token} → Has p (forms.Mark marks.StarAssign) ts rest → ReadsAug signs.Times p ts rest
  floor_assign : {p : Place} {ts rest : List Token} → Has p (forms.Mark marks.TwoSlashesAssign) ts rest → ReadsAug signs.FloorDivide p ts rest
  modulo_assign : {p : Place} {ts rest : List Token} → Has p (forms.Mark marks.PercentAssign) ts rest → ReadsAug signs.Modulo p ts rest

-- simple = 'pass' | 'break' | 'continue' | 'return' [expr] | 'raise' NAME '(' ')' | 'assert' expr
--        | expr [':' type '=' expr | '=' expr | AUG expr]
pub data ReadsSimple : RawStmt → List Token → List Token → Type 0 where
  pass : {p : Place} {ts rest : List Token} → Has p (forms.Key keys.Pass) ts rest → ReadsSimple (statement p stmts.Pass) ts rest
  break : {p : Place} {ts rest : List Token} → Has p (forms.Key keys.Break) ts rest → ReadsSimple (statement p stmts.Break) ts rest
  continue : {p : Place} {ts rest : List Token} → Has p (forms.Key keys.Continue) ts rest → ReadsSimple (statement p stmts.Continue) ts rest
  return : {p : Place} {ts rest : List Token} → Has p (forms.Key keys.Return) ts rest → ReadsSimple (statement p (stmts.Return None)) ts rest
  return_value : {p : Place} {e : RawExpr} {ts a rest : List Token} → Has p (forms.Key keys.Return) ts a → ReadsExpr e a rest → ReadsSimple (statement p (stmts.Return (Some e))) ts rest
  raise : {p q : Place} {n : List ℕ} {ts a b c rest : List Token} → Has p (forms.Key keys.Raise) ts a → Has q (forms.Name n) a b → Past (forms.Mark marks.OpenParen) b c → Past (forms.Mark marks.CloseParen) c rest → ReadsSimple (statement p (stmts.Raise q n)) ts rest
  assert : {p : Place} {e : RawExpr} {ts a rest : List Token} → Has p (forms.Key keys.Assert) ts a → ReadsExpr e a rest → ReadsSimple (statement p (stmts.Assert e)) ts rest
  eval : {p : Place} {e : RawExpr} {ts rest : List Token} → BeginsAt p ts → ReadsExpr e ts rest → ReadsSimple (statement p (stmts.Eval e)) ts rest
  declare : {p : Place} {e f : RawExpr} {t : RawTy} {ts a b c d rest : List Token} → BeginsAt p ts → ReadsExpr e ts a → Past (forms.Mark marks.Colon) a b → ReadsTy t b c → Past (forms.Mark marks.Assign) c d → ReadsExpr f d rest → ReadsSimple (statement p (stmts.Declare e t f)) ts rest
  assign : {p : Place} {e f : RawExpr} {ts a b rest : List Token} → BeginsAt p ts → ReadsExpr e ts a → Past (forms.Mark marks.Assign) a b → ReadsExpr f b rest → ReadsSimple (statement p (stmts.Assign e f)) ts rest
  augment : {p q : Place} {o : Arithmetic} {e f : RawExpr} {ts a b rest : List Token} → BeginsAt p ts → ReadsExpr e ts a → ReadsAug o q a b → ReadsExpr f b rest → ReadsSimple (statement p (stmts.Augment e q o f)) ts rest

mutual
  -- stmt = simple NEWLINE | if | while | try | with
  pub data ReadsStmt : RawStmt → List Token → List Token → Type 0 where
    simple : {s : RawStmt} {ts a rest : List Token} → ReadsSimple s ts a → Past forms.Newline a rest → ReadsStmt s ts rest
    -- if = 'if' expr ':' block {'elif' expr ':' block} ['else' ':' block]
    if_of : {p : Place} {e : RawExpr} {ss other : List RawStmt} {elifs : List RawElif} {ts a b c d f rest : List Token} → Has p (forms.Key keys.If) ts a → ReadsExpr e a b → Past (forms.Mark marks.Colon) b c → ReadsBlock ss c d → ReadsElifs elifs d f → ReadsElse other f rest → ReadsStmt (statement p (stmts.If e ss elifs other)) ts rest
    -- while = 'while' expr ':' block
    while_of : {p : Place} {e : RawExpr} {ss : List RawStmt} {ts a b c rest : List Token} → Has p (forms.Key keys.While) ts a → ReadsExpr e a b → Past (forms.Mark marks.Colon) b c → ReadsBlock ss c rest → ReadsStmt (statement p (stmts.While e ss)) ts rest
    -- try = 'try' ':' block (handler {handler} ['else' ':' block] ['finally' ':' block] | 'finally' ':' block)
    try_of : {p : Place} {ss other last : List RawStmt} {h : RawHandler} {hs : List RawHandler} {ts a b c d e f rest : List Token} → Has p (forms.Key keys.Try) ts a → Past (forms.Mark marks.Colon) a b → ReadsBlock ss b c → ReadsHandler h c d → ReadsHandlers hs d e → ReadsElse other e f → ReadsFinally last f rest → ReadsStmt (statement p (stmts.Try ss (h ∷ hs) other last)) ts rest
    finally_of : {p : Place} {ss last : List RawStmt} {ts a b c d e rest : List Token} → Has p (forms.Key keys.Try) ts a → Past (forms.Mark marks.Colon) a b → ReadsBlock ss b c → Past (forms.Key keys.Finally) c d → Past (forms.Mark marks.Colon) d e → ReadsBlock last e rest → ReadsStmt (statement p (stmts.Try ss [] [] last)) ts rest
    -- with = 'with' expr ':' block
    with_of : {p : Place} {e : RawExpr} {ss : List RawStmt} {ts a b c rest : List Token} → Has p (forms.Key keys.With) ts a → ReadsExpr e a b → Past (forms.Mark marks.Colon) b c → ReadsBlock ss c rest → ReadsStmt (statement p (stmts.With e ss)) ts rest

  -- block = simple NEWLINE | NEWLINE INDENT stmt {stmt} DEDENT
  pub data ReadsBlock : List RawStmt → List Token → List Token → Type 0 where
    one_line : {s : RawStmt} {ts a rest : List Token} → ReadsSimple s ts a → Past forms.Newline a rest → ReadsBlock (s ∷ []) ts rest
    lines : {s : RawStmt} {ss : List RawStmt} {ts a b c rest : List Token} → Past forms.Newline ts a → Past forms.Indent a b → ReadsStmt s b c → ReadsStmts ss c rest → ReadsBlock (s ∷ ss) ts rest

  pub data ReadsStmts : List RawStmt → List Token → List Token → Type 0 where
    stmts_end : {ts rest : List Token} → Past forms.Dedent ts rest → ReadsStmts [] ts rest
    stmt_more : {s : RawStmt} {ss : List RawStmt} {ts a rest : List Token} → ReadsStmt s ts a → ReadsStmts ss a rest → ReadsStmts (s ∷ ss) ts rest

  pub data ReadsElifs : List RawElif → List Token → List Token → Type 0 where
    no_elif : {ts : List Token} → ReadsElifs [] ts ts
    elif_more : {p : Place} {e : RawExpr} {ss : List RawStmt} {elifs : List RawElif} {ts a b c d rest : List Token} → Has p (forms.Key keys.Elif) ts a → ReadsExpr e a b → Past (forms.Mark marks.Colon) b c → ReadsBlock ss c d → ReadsElifs elifs d rest → ReadsElifs (elif_part p e ss ∷ elifs) ts rest

  pub data ReadsElse : List RawStmt → List Token → List Token → Type 0 where
    no_else : {ts : List Token} → ReadsElse [] ts ts
    else_of : {ss : List RawStmt} {ts a b rest : List Token} → Past (forms.Key keys.Else) ts a → Past (forms.Mark marks.Colon) a b → ReadsBlock ss b rest → ReadsElse ss ts rest

  pub data ReadsFinally : List RawStmt → List Token → List Token → Type 0 where
    no_finally : {ts : List Token} → ReadsFinally [] ts ts
    finally_block : {ss : List RawStmt} {ts a b rest : List Token} → Past (forms.Key keys.Finally) ts a → Past (forms.Mark marks.Colon) a b → ReadsBlock ss b rest → ReadsFinally ss ts rest

  -- handler = 'except' NAME ':' block
  pub data ReadsHandler : RawHandler → List Token → List Token → Type 0 where
    except_of : {p : Place} {n : List ℕ} {ss : List RawStmt} {ts a b c rest : List Token} → Past (forms.Key keys.Except) ts a → Has p (forms.Name n) a b → Past (forms.Mark marks.Colon) b c → ReadsBlock ss c rest → ReadsHandler (handler p n ss) ts rest

  pub data ReadsHandlers : List RawHandler → List Token → List Token → Type 0 where
    no_handler : {ts : List Token} → ReadsHandlers [] ts ts
    handler_more : {h : RawHandler} {hs : List RawHandler} {ts a rest : List Token} → ReadsHandler h ts a → ReadsHandlers hs a rest → ReadsHandlers (h ∷ hs) ts rest
