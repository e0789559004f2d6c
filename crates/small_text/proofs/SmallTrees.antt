-- The trees of lines of small texts.
use Rattle.std.specs.Prelude.{ℕ, ◌+◌, pos, List, [], ◌∷◌, length, None, codes}
use Rattle.py_base.specs.declared.Place.{Place}
use Rattle.raw_syntax.specs.declared.RawExpr.{RawExpr}
use Rattle.raw_syntax.specs.declared.RawExprForm.TheVariants as exprs
use Rattle.raw_syntax.specs.declared.RawArgument.TheVariants as arguments
use Rattle.raw_syntax.specs.declared.Arithmetic.{Arithmetic}
use Rattle.raw_syntax.specs.declared.Arithmetic.TheVariants as signs
use Rattle.raw_syntax.specs.declared.Comparison.TheVariants as compares
use Rattle.raw_syntax.specs.declared.RawStmt.{RawStmt}
use Rattle.raw_syntax.specs.declared.RawStmtForm.TheVariants as stmts
use Rattle.raw_syntax.specs.declared.RawItem.TheVariants as items
use Rattle.raw_syntax.specs.declared.Raw.{Raw}
use Rattle.py_grammar.specs.ExprGrammar.{node, link}
use Rattle.py_grammar.specs.StmtGrammar.{statement, type_of}
use Rattle.py_grammar.specs.ModuleGrammar.{function, module_of}
use Rattle.small_text.proofs.LineBits.{Operand, digits, word, Sum, alone, plus, minus, Said, passes, stores, checks, prints, Row, says, digits_value, operand_text, at}

abbrev pub operand_expr : Place → Operand → RawExpr
operand_expr p (digits ds) = node p (exprs.Number (pos (digits_value ds)))
operand_expr p (word w) = node p (exprs.Name w)

-- the column of the right operand
abbrev pub right_col : ℕ → Operand → ℕ
right_col col x = col + length (operand_text x) + 1 + 1 + 1

-- the column behind a sum
abbrev pub sum_end : ℕ → Sum → ℕ
sum_end col (alone x) = col + length (operand_text x)
sum_end col (plus x y) = right_col col x + length (operand_text y)
sum_end col (minus x y) = right_col col x + length (operand_text y)

abbrev pub two_expr : Arithmetic → ℕ → ℕ → Operand → Operand → RawExpr
two_expr sign line col x y = node (at line (col + length (operand_text x) + 1)) (exprs.Binary sign (operand_expr (at line col) x) (operand_expr (at line (right_col col x)) y))

abbrev pub sum_expr : ℕ → ℕ → Sum → RawExpr
sum_expr line col (alone x) = operand_expr (at line col) x
sum_expr line col (plus x y) = two_expr signs.Plus line col x y
sum_expr line col (minus x y) = two_expr signs.Minus line col x y

-- the place of `==`
abbrev pub equal_at : ℕ → Sum → Place
equal_at line a = at line (sum_end 12 a + 1)

abbrev pub checked_expr : ℕ → Sum → Sum → RawExpr
checked_expr line a b = node (equal_at line a) (exprs.Chain (sum_expr line 12 a) (link (equal_at line a) compares.Equal (sum_expr line (sum_end 12 a + 1 + 2 + 1) b) ∷ []))

abbrev pub print_expr : ℕ → RawExpr
print_expr line = node (at line 5) (exprs.Name (codes "print"))

abbrev pub printed_expr : ℕ → Sum → RawExpr
printed_expr line e = node (at line 5) (exprs.Call (print_expr line) (arguments.Value (sum_expr line 11 e) ∷ []))

abbrev pub said_stmt : ℕ → Said → RawStmt
said_stmt line passes = statement (at line 5) stmts.Pass
said_stmt line (stores n e) = statement (at line 5) (stmts.Assign (node (at line 5) (exprs.Name n)) (sum_expr line (5 + length n + 1 + 1 + 1) e))
said_stmt line (checks a b) = statement (at line 5) (stmts.Assert (checked_expr line a b))
said_stmt line (prints e) = statement (at line 5) (stmts.Eval (printed_expr line e))

-- the statements of lines from this one on
abbrev pub stmts_of : ℕ → List Row → List RawStmt
stmts_of line [] = []
stmts_of line (says s ∷ rows) = said_stmt line s ∷ stmts_of (line + 1) rows
stmts_of line (r ∷ rows) = stmts_of (line + 1) rows

-- the tree of a small text whose head stands on this line
abbrev pub small_tree : ℕ → List Row → Raw
small_tree line rows = module_of (items.Func (function (at line 5) [] (codes "main") [] (type_of (at line 15) (codes "None") None) (stmts_of (line + 1) rows)) ∷ []) (at (line + 1 + length rows) 1)
