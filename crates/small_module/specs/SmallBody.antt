-- The bounds that keep the numbers of a small function within 128 bits: it has few statements, and each of its numbers is short.
use Rattle.std.specs.Prelude.{◌≤◌, ◌*◌, ◌^◌, ℕ, List, length, slice_get, All, ⊤, IfSome, ℤ, pos, neg_ℤ, ◌≤ℤ◌}
use Rattle.py_syntax.specs.declared.Expr.{Expr, out-Expr}
use Rattle.py_syntax.specs.declared.ExprForm.{ExprForm, ExprForm-F, out-ExprForm}
use Rattle.py_syntax.specs.declared.Instance.{Instance}
use Rattle.py_syntax.specs.declared.Stmt.{Stmt, out-Stmt}
use Rattle.py_syntax.specs.declared.StmtForm.{StmtForm, StmtForm-F, out-StmtForm}
use Rattle.py_syntax.specs.declared.Method.{Method}
use Rattle.py_syntax.specs.declared.Module.{Module}

-- from -b to b
pub record IsWithin (b : ℕ) (z : ℤ) : Type 0 where
  pub low : neg_ℤ (pos b) ≤ℤ z
  pub high : z ≤ℤ pos b

pub record AreWithin (b : ℕ) (values : List ℤ) : Type 0 where
  pub each : All (IsWithin b) values

-- no value is further from 0 than this behind so many statements, since each at most doubles
abbrev pub reach : ℕ → ℕ
reach statements = 10 ^ 9 * 2 ^ statements

-- a number that is short, or a local
abbrev pub IsOperandForm : ExprForm-F ExprForm Expr Instance → Type 0
IsOperandForm (ExprForm-F.Num z) = IsWithin (10 ^ 9) z
IsOperandForm (ExprForm-F.Local i) = ⊤
IsOperandForm _ = ⊥

abbrev pub IsOperand : Expr → Type 0
IsOperand e = IsOperandForm (out-ExprForm (out-Expr e).form)

-- an operand, or two with an operator between
abbrev pub IsSmallForm : ExprForm-F ExprForm Expr Instance → Type 0
IsSmallForm (ExprForm-F.Bin key a b) = IsOperand a × IsOperand b
IsSmallForm form = IsOperandForm form

abbrev pub IsSmall : Expr → Type 0
IsSmall e = IsSmallForm (out-ExprForm (out-Expr e).form)

-- an equation of two such expressions
abbrev pub IsEquationForm : ExprForm-F ExprForm Expr Instance → Type 0
IsEquationForm (ExprForm-F.Bin key a b) = IsSmall a × IsSmall b
IsEquationForm _ = ⊤

abbrev pub IsEquation : Expr → Type 0
IsEquation e = IsEquationForm (out-ExprForm (out-Expr e).form)

-- what the statement computes is small
abbrev pub IsSmallStmtForm : StmtForm-F StmtForm Stmt → Type 0
IsSmallStmtForm (StmtForm-F.Store i e) = IsSmall e
IsSmallStmtForm (StmtForm-F.Check e) = IsEquation e
IsSmallStmtForm _ = ⊤

abbrev pub IsSmallStmt : Stmt → Type 0
IsSmallStmt s = IsSmallStmtForm (out-StmtForm (out-Stmt s).form)

pub record IsSmallMethod (method : Method) : Type 0 where
  pub few : length method.body ≤ 60
  pub each : All IsSmallStmt method.body

-- the module's `main` is small
abbrev pub IsSmallModule : Module → Type 0
IsSmallModule m = IfSome (slice_get m.methods m.main) IsSmallMethod
