-- The tokens of some small modules, and the trees that they spell.
use Rattle.std.specs.Prelude.{ℕ, pos, List, [], ◌∷◌, None, codes}
use Rattle.py_base.specs.declared.Place.{Place}
use Rattle.py_tokens.specs.declared.Token.{Token}
use Rattle.py_tokens.specs.declared.TokenForm.{TokenForm}
use Rattle.py_tokens.specs.declared.TokenForm.TheVariants.{Name, Key, Number, Mark, Newline, End}
use Rattle.py_tokens.specs.declared.Keyword.TheVariants.{Def, None as NoneWord, And, Not, Is}
use Rattle.py_tokens.specs.declared.Mark.TheVariants.{OpenParen, CloseParen, Arrow, Colon, Assign, Minus, Star, Comma}
use Rattle.raw_syntax.specs.declared.RawExpr.{RawExpr}
use Rattle.raw_syntax.specs.declared.RawExprForm.TheVariants as exprs
use Rattle.raw_syntax.specs.declared.RawStmt.{RawStmt}
use Rattle.raw_syntax.specs.declared.RawStmtForm.TheVariants as stmts
use Rattle.raw_syntax.specs.declared.RawItem.TheVariants as items
use Rattle.raw_syntax.specs.declared.Arithmetic.TheVariants as signs
use Rattle.raw_syntax.specs.declared.Comparison.TheVariants as compares
use Rattle.raw_syntax.specs.declared.Raw.{Raw}
use Rattle.py_grammar.specs.ExprGrammar.{node, link}
use Rattle.py_grammar.specs.StmtGrammar.{statement, type_of}
use Rattle.py_grammar.specs.ModuleGrammar.{function, module_of}

abbrev pub at : ℕ → ℕ → Place
at line col = record { line = line; col = col }

-- a token of this many characters
abbrev pub token : ℕ → ℕ → TokenForm → Token
token line col form = record { place = at line col; «end» = at line col; form = form }

-- `def f() -> None:`
abbrev pub head : List Token
head = token 1 1 (Key Def) ∷ token 1 5 (Name (codes "f")) ∷ token 1 6 (Mark OpenParen) ∷ token 1 7 (Mark CloseParen) ∷ token 1 9 (Mark Arrow) ∷ token 1 12 (Key NoneWord) ∷ token 1 16 (Mark Colon) ∷ []

abbrev pub function_of : RawStmt → Raw
function_of s = module_of (items.Func (function (at 1 5) [] (codes "f") [] (type_of (at 1 12) (codes "None") None) (s ∷ [])) ∷ []) (at 2 1)

abbrev pub name : ℕ → List ℕ → RawExpr
name col n = node (at 1 col) (exprs.Name n)

abbrev pub number : ℕ → ℕ → RawExpr
number col n = node (at 1 col) (exprs.Number (pos n))

-- `x = 1 - 2 - 3 * y`, which is `x = (1 - 2) - (3 * y)`
abbrev pub difference : List Token
difference = token 1 18 (Name (codes "x")) ∷ token 1 20 (Mark Assign) ∷ token 1 22 (Number (pos 1)) ∷ token 1 24 (Mark Minus) ∷ token 1 26 (Number (pos 2)) ∷ token 1 28 (Mark Minus) ∷ token 1 30 (Number (pos 3)) ∷ token 1 32 (Mark Star) ∷ token 1 34 (Name (codes "y")) ∷ token 1 35 Newline ∷ token 2 1 End ∷ []

abbrev pub difference_tree : Raw
difference_tree = function_of (statement (at 1 18) (stmts.Assign (name 18 (codes "x"))
    (node (at 1 28) (exprs.Binary signs.Minus (node (at 1 24) (exprs.Binary signs.Minus (number 22 1) (number 26 2))) (node (at 1 32) (exprs.Binary signs.Times (number 30 3) (name 34 (codes "y"))))))))

-- `not a is not b and c`, which is `(not (a is not b)) and c`
abbrev pub condition : List Token
condition = token 1 18 (Key Not) ∷ token 1 22 (Name (codes "a")) ∷ token 1 24 (Key Is) ∷ token 1 27 (Key Not) ∷ token 1 31 (Name (codes "b")) ∷ token 1 33 (Key And) ∷ token 1 37 (Name (codes "c")) ∷ token 1 38 Newline ∷ token 2 1 End ∷ []

abbrev pub condition_tree : Raw
condition_tree = function_of (statement (at 1 18) (stmts.Eval
    (node (at 1 33) (exprs.And (node (at 1 18) (exprs.Not (node (at 1 24) (exprs.Chain (name 22 (codes "a")) (link (at 1 24) compares.IsNot (name 31 (codes "b")) ∷ []))))) (name 37 (codes "c"))))))

-- `x = f(,)`, where the comma is the first token that goes on with no module
abbrev pub wrong : List Token
wrong = token 1 18 (Name (codes "x")) ∷ token 1 20 (Mark Assign) ∷ token 1 22 (Name (codes "f")) ∷ token 1 23 (Mark OpenParen) ∷ token 1 24 (Mark Comma) ∷ token 1 25 (Mark CloseParen) ∷ token 1 26 Newline ∷ token 2 1 End ∷ []
