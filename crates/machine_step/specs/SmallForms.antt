-- The modules that `step` runs so far: `main` has no conditions and no statements but assignments to locals, asserts, prints, `pass`, `Fold` and `Unfold`, over numbers, truth values, None, locals, operators of one or two operands, and operands that must not be None.
use Rattle.std.specs.Prelude.{◌≡◌, Bool, true, false, ◌&&◌, IsTrue, [], All, IfSome, slice_get}
use Rattle.std.specs.List.{list_all}
use Rattle.py_syntax.specs.declared.Expr.{Expr, fold-Expr}
use Rattle.py_syntax.specs.declared.ExprForm.{ExprForm-F}
use Rattle.py_syntax.specs.declared.PrintArg.{PrintArg}
use Rattle.py_syntax.specs.declared.PrintArg.TheVariants.{Value, Literal}
use Rattle.py_syntax.specs.declared.Stmt.{Stmt}
use Rattle.py_syntax.specs.declared.StmtForm.{StmtForm, StmtForm-F, out-StmtForm}
use Rattle.py_syntax.specs.declared.Method.{Method}
use Rattle.py_syntax.specs.declared.Module.{Module}

-- a form whose parts are small or not
abbrev pub is_small_form : ExprForm-F Bool Bool (Unit {0}) → Bool
is_small_form (ExprForm-F.Num n) = true
is_small_form (ExprForm-F.Truth b) = true
is_small_form ExprForm-F.Nil = true
is_small_form (ExprForm-F.Local i) = true
is_small_form (ExprForm-F.Un key a) = a
is_small_form (ExprForm-F.Bin key a b) = a && b
is_small_form (ExprForm-F.NotNil e) = e
is_small_form form = false

abbrev pub is_small : Expr → Bool
is_small = fold-Expr Bool Bool (Unit {0}) is_small_form (λ e. e.form) (λ i. tt)

abbrev pub is_small_argument : PrintArg → Bool
is_small_argument (Value e) = is_small e
is_small_argument (Literal text) = true

abbrev pub is_small_stmt_form : StmtForm-F StmtForm Stmt → Bool
is_small_stmt_form StmtForm-F.Pass = true
is_small_stmt_form (StmtForm-F.Fold i) = true
is_small_stmt_form (StmtForm-F.Unfold i) = true
is_small_stmt_form (StmtForm-F.Store i e) = is_small e
is_small_stmt_form (StmtForm-F.Check e) = is_small e
is_small_stmt_form (StmtForm-F.Print args) = list_all is_small_argument args
is_small_stmt_form form = false

abbrev pub is_small_stmt : Stmt → Bool
is_small_stmt s = is_small_stmt_form (out-StmtForm s.form)

pub record IsSmallMethod (method : Method) : Type 0 where
  pub pre : method.pre ≡ []
  pub post : method.post ≡ []
  pub exits : method.exits ≡ []
  pub each : All (λ s. IsTrue (is_small_stmt s)) method.body

-- the module's `main` has small forms alone
abbrev pub HasSmallForms : Module → Type 0
HasSmallForms m = IfSome (slice_get m.methods m.main) IsSmallMethod
