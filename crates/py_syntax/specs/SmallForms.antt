-- The modules of small texts: the function `main` alone, whose statements assign, assert and print whole numbers, locals, and sums and differences of two of them. Locals are numbered in the order of their first assignments, so the ones that have values are those below a number.
use Rattle.std.specs.Prelude.{◌≡◌, ◌⊎◌, ◌≤◌, ◌<◌, ℕ, suc, max, ⊤, List, [], ◌∷◌, length}
use Rattle.py_syntax.specs.declared.expr.Expr.{Expr}
use Rattle.py_syntax.specs.declared.expr.ExprForm.{ExprForm, ExprForm-F, out-ExprForm}
use Rattle.py_syntax.specs.declared.expr.Instance.{Instance}
use Rattle.py_syntax.specs.declared.stmt.PrintArg.{PrintArg}
use Rattle.py_syntax.specs.declared.stmt.PrintArg.TheVariants.{Value, Literal}
use Rattle.py_syntax.specs.declared.stmt.Stmt.{Stmt}
use Rattle.py_syntax.specs.declared.stmt.StmtForm.{StmtForm, StmtForm-F, out-StmtForm}
use Rattle.py_syntax.specs.declared.module.Method.{Method}
use Rattle.py_syntax.specs.declared.module.Module.{Module}

-- a number, or one of the first k locals
abbrev pub IsOperandForm : ℕ → ExprForm-F ExprForm Expr Instance → Type 0
IsOperandForm k (ExprForm-F.Num n) = ⊤
IsOperandForm k (ExprForm-F.Local i) = i < k
IsOperandForm k form = ⊥

abbrev pub IsOperand : ℕ → Expr → Type 0
IsOperand k e = IsOperandForm k (out-ExprForm e.form)

-- an operand, or two with `+`, whose key is 1, or `-`, whose key is 2
abbrev pub IsSumForm : ℕ → ExprForm-F ExprForm Expr Instance → Type 0
IsSumForm k (ExprForm-F.Bin key a b) = ((key ≡ 1) ⊎ (key ≡ 2)) × IsOperand k a × IsOperand k b
IsSumForm k form = IsOperandForm k form

abbrev pub IsSum : ℕ → Expr → Type 0
IsSum k e = IsSumForm k (out-ExprForm e.form)

-- two sums with `==`, whose key on numbers is 11
abbrev pub IsEquationForm : ℕ → ExprForm-F ExprForm Expr Instance → Type 0
IsEquationForm k (ExprForm-F.Bin key a b) = (key ≡ 11) × IsSum k a × IsSum k b
IsEquationForm k form = ⊥

abbrev pub IsEquation : ℕ → Expr → Type 0
IsEquation k e = IsEquationForm k (out-ExprForm e.form)

-- one sum that `print` writes
abbrev pub IsPrinted : ℕ → List PrintArg → Type 0
IsPrinted k (Value e ∷ []) = IsSum k e
IsPrinted k args = ⊥

-- a statement where the first k of n locals have values: what it assigns is one of these, or the next one
abbrev pub IsSmallStmtForm : ℕ → ℕ → StmtForm-F StmtForm Stmt → Type 0
IsSmallStmtForm n k StmtForm-F.Pass = ⊤
IsSmallStmtForm n k (StmtForm-F.Store i e) = (i ≤ k) × (i < n) × IsSum k e
IsSmallStmtForm n k (StmtForm-F.Check e) = IsEquation k e
IsSmallStmtForm n k (StmtForm-F.Print args) = IsPrinted k args
IsSmallStmtForm n k form = ⊥

-- how many locals have values behind a statement
abbrev pub assigned_form : ℕ → StmtForm-F StmtForm Stmt → ℕ
assigned_form k (StmtForm-F.Store i e) = max k (suc i)
assigned_form k form = k

abbrev pub assigned_behind : ℕ → Stmt → ℕ
assigned_behind k s = assigned_form k (out-StmtForm s.form)

-- statements one after another, where the first k of n locals have values
abbrev pub IsSmallBody : ℕ → ℕ → List Stmt → Type 0
IsSmallBody n k [] = ⊤
IsSmallBody n k (s ∷ ss) = IsSmallStmtForm n k (out-StmtForm s.form) × IsSmallBody n (assigned_behind k s) ss

-- a function without parameters, result and contract
pub record IsSmallMethod (method : Method) : Type 0 where
  pub no_parameter : method.params ≡ []
  pub no_precondition : method.pre ≡ []
  pub no_postcondition : method.post ≡ []
  pub no_exit : method.exits ≡ []
  pub makes_nothing : method.makes ≡ 0
  pub body_is_small : IsSmallBody (length method.locals) 0 method.body

-- A module of one function, which is `main`.
pub record IsSmallModule (m : Module) : Type 0 where
  pub method : Method
  pub alone : m.methods ≡ method ∷ []
  pub is_main : m.main ≡ 0
  pub is_small : IsSmallMethod method
