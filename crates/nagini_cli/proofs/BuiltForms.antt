-- A small module has only forms that are built.
use Rattle.std.proofs.Common.{◌≡◌, ℕ, List, [], ◌∷◌, refl, sym, ap, subst, ◌∙◌}
use Rattle.std.specs.Prelude.{Bool, true, ◌&&◌, All, Option, Some, IfSome, IsTrue, slice_get, length}
use Rattle.std.specs.List.{list_all}
use Rattle.std.proofs.lemmas.List.Elements.{All-nil, All-cons}
use Rattle.py_syntax.specs.declared.Expr.{Expr, out-Expr, fold_out-Expr}
use Rattle.py_syntax.specs.declared.ExprForm.{ExprForm, ExprForm-F, out-ExprForm, fold-ExprForm, map-ExprForm, fold_out-ExprForm}
use Rattle.py_syntax.specs.declared.Instance.{Instance, fold-Instance}
use Rattle.py_syntax.specs.declared.PrintArg.{PrintArg}
use Rattle.py_syntax.specs.declared.PrintArg.TheVariants as arg
use Rattle.py_syntax.specs.declared.Stmt.{Stmt}
use Rattle.py_syntax.specs.declared.StmtForm.{StmtForm, StmtForm-F, out-StmtForm}
use Rattle.py_syntax.specs.declared.Method.{Method}
use Rattle.py_syntax.specs.declared.Module.{Module}
use Rattle.py_syntax.specs.SmallForms.{IsOperandForm, IsOperand, IsSumForm, IsSum, IsEquationForm, IsEquation, IsPrinted, IsSmallStmtForm, IsSmallBody, IsSmallMethod, IsSmallModule, assigned_behind}
use Rattle.machine_step.specs.SmallForms as steps
use Rattle.machine_step.specs.SmallForms.{is_small_form, is_small, is_small_argument, is_small_stmt_form, is_small_stmt, HasSmallForms}

-- one level of an expression
form_is_small : ExprForm-F ExprForm Expr Instance → Bool
form_is_small form = is_small_form (map-ExprForm ExprForm Expr Instance Bool Bool (Unit {0}) (fold-ExprForm Bool Bool (Unit {0}) is_small_form (λ e. e.form) (λ i. tt)) is_small (fold-Instance Bool Bool (Unit {0}) is_small_form (λ e. e.form) (λ i. tt)) form)

is_small-out : (e : Expr) → is_small e ≡ form_is_small (out-ExprForm (out-Expr e).form)
unfolding form_is_small
is_small-out e = fold_out-Expr Bool Bool (Unit {0}) is_small_form (λ e. e.form) (λ i. tt) e ∙ fold_out-ExprForm Bool Bool (Unit {0}) is_small_form (λ e. e.form) (λ i. tt) (out-Expr e).form

both : (a b : Bool) → a ≡ true → b ≡ true → (a && b) ≡ true
both a b p q = ap (λ x. x && b) p ∙ q

operand_form : (k : ℕ) (form : ExprForm-F ExprForm Expr Instance) → IsOperandForm k form → form_is_small form ≡ true
unfolding form_is_small
operand_form k (ExprForm-F.Num z) is = refl
operand_form k (ExprForm-F.Local i) is = refl
operand_form k form is = absurd is

operand : (k : ℕ) (e : Expr) → IsOperand k e → is_small e ≡ true
operand k e is = is_small-out e ∙ operand_form k (out-ExprForm e.form) is

sum_form : (k : ℕ) (form : ExprForm-F ExprForm Expr Instance) → IsSumForm k form → form_is_small form ≡ true
unfolding form_is_small
sum_form k (ExprForm-F.Bin key a b) (sign, left, right) = both (is_small a) (is_small b) (operand k a left) (operand k b right)
sum_form k (ExprForm-F.Num z) is = refl
sum_form k (ExprForm-F.Local i) is = refl
sum_form k form is = absurd is

sum : (k : ℕ) (e : Expr) → IsSum k e → is_small e ≡ true
sum k e is = is_small-out e ∙ sum_form k (out-ExprForm e.form) is

equation_form : (k : ℕ) (form : ExprForm-F ExprForm Expr Instance) → IsEquationForm k form → form_is_small form ≡ true
unfolding form_is_small
equation_form k (ExprForm-F.Bin key a b) (is, left, right) = both (is_small a) (is_small b) (sum k a left) (sum k b right)
equation_form k form is = absurd is

equation : (k : ℕ) (e : Expr) → IsEquation k e → is_small e ≡ true
equation k e is = is_small-out e ∙ equation_form k (out-ExprForm e.form) is

printed : (k : ℕ) (args : List PrintArg) → IsPrinted k args → list_all is_small_argument args ≡ true
printed k (arg.Value e ∷ []) is = both (is_small e) true (sum k e is) refl
printed k args is = absurd is

stmt_form : (n k : ℕ) (form : StmtForm-F StmtForm Stmt) → IsSmallStmtForm n k form → is_small_stmt_form form ≡ true
stmt_form n k StmtForm-F.Pass is = refl
stmt_form n k (StmtForm-F.Store i e) (known, there, is) = sum k e is
stmt_form n k (StmtForm-F.Check e) is = equation k e is
stmt_form n k (StmtForm-F.Print args) is = printed k args is
stmt_form n k form is = absurd is

body : (n k : ℕ) (ss : List Stmt) → IsSmallBody n k ss → All (λ s. IsTrue (is_small_stmt s)) ss
body n k [] is = All-nil (λ s. IsTrue (is_small_stmt s))
body n k (s ∷ ss) (first, more) = All-cons (λ s. IsTrue (is_small_stmt s)) s ss (stmt_form n k (out-StmtForm s.form) first) (body n (assigned_behind k s) ss more)

forms_of : (method : Method) → IsSmallMethod method → steps.IsSmallMethod method
forms_of method small = record { pre = small.no_precondition; post = small.no_postcondition; exits = small.no_exit; each = body (length method.locals) 0 method.body small.body_is_small }

pub has_small_forms : (m : Module) → IsSmallModule m → HasSmallForms m
has_small_forms m small =
    let is : slice_get m.methods m.main ≡ Some small.method = ap (λ (i : ℕ). slice_get m.methods i) small.is_main ∙ ap (λ (all : List Method). slice_get all 0) small.alone in
    subst (λ (found : Option Method). IfSome found steps.IsSmallMethod) (sym is) (forms_of small.method small.is_small)
