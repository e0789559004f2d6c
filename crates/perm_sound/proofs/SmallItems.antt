-- The items of small statements are small, and each of them takes itself away.
use Rattle.std.proofs.Common.{◌≡◌, ◌⊎◌, ℕ, List, [], ◌∷◌, refl, sym, subst, inl, inr}
use Rattle.std.specs.Bool.{⊤}
use Rattle.std.specs.Prelude.{length}
use Rattle.py_base.specs.declared.Place.{Place}
use Rattle.py_syntax.specs.declared.Value.{Value}
use Rattle.py_syntax.specs.declared.Expr.{Expr}
use Rattle.py_syntax.specs.declared.ExprForm.{ExprForm, ExprForm-F, out-ExprForm}
use Rattle.py_syntax.specs.declared.Instance.{Instance}
use Rattle.py_syntax.specs.declared.PrintArg.{PrintArg}
use Rattle.py_syntax.specs.declared.PrintArg.TheVariants as arg
use Rattle.py_syntax.specs.declared.Stmt.{Stmt}
use Rattle.py_syntax.specs.declared.StmtForm.{StmtForm, StmtForm-F, out-StmtForm}
use Rattle.py_syntax.specs.declared.Method.{Method}
use Rattle.py_syntax.specs.declared.Item.{Item}
use Rattle.py_syntax.specs.declared.Item.TheVariants as item
use Rattle.py_syntax.specs.ExprItems.{expr_items, form_items}
use Rattle.py_syntax.specs.StmtItems.{printed_items, stmt_form_items, making_items, method_items}
use Rattle.py_syntax.specs.ItemLaws.{expr_items_is}
use Rattle.py_syntax.specs.Control.{opened}
use Rattle.py_syntax.specs.SmallForms.{IsOperandForm, IsOperand, IsSumForm, IsSum, IsEquationForm, IsEquation, IsPrinted, IsSmallStmtForm, IsSmallBody, IsSmallMethod, assigned_behind}

-- the operators of small expressions
abbrev pub IsSmallKey : ℕ → Type 0
IsSmallKey key = (key ≡ 1) ⊎ ((key ≡ 2) ⊎ (key ≡ 11))

abbrev pub IsSmallItem : Item Value → Type 0
IsSmallItem (item.Num n) = ⊤
IsSmallItem (item.Load i) = ⊤
IsSmallItem (item.Bin p key) = IsSmallKey key
IsSmallItem (item.Store i) = ⊤
IsSmallItem (item.Check p) = ⊤
IsSmallItem (item.Print args) = ⊤
IsSmallItem item.Pass = ⊤
IsSmallItem item.End = ⊤
IsSmallItem i = ⊥

abbrev pub AreSmall : List (Item Value) → Type 0
AreSmall [] = ⊤
AreSmall (i ∷ control) = IsSmallItem i × AreSmall control

-- no block is entered between small items
pub opened_small : (control : List (Item Value)) → AreSmall control → opened control ≡ control
opened_small (item.Finally block ∷ rest) small = absurd small.0
opened_small control small = refl

small_sign : (key : ℕ) → (key ≡ 1) ⊎ (key ≡ 2) → IsSmallKey key
small_sign key (inl h) = inl h
small_sign key (inr h) = inr (inl h)

operand_form : (k : ℕ) (form : ExprForm-F ExprForm Expr Instance) (p : Place) (rest : List (Item Value)) → IsOperandForm k form → AreSmall rest → AreSmall (form_items (λ e. e) expr_items form p rest)
operand_form k (ExprForm-F.Num n) p rest is small = (tt, small)
operand_form k (ExprForm-F.Local i) p rest is small = (tt, small)
operand_form k form p rest is small = absurd is

operand : (k : ℕ) (e : Expr) (rest : List (Item Value)) → IsOperand k e → AreSmall rest → AreSmall (expr_items e rest)
operand k e rest is small = subst AreSmall (sym (expr_items_is e rest)) (operand_form k (out-ExprForm e.form) e.place rest is small)

sum_form : (k : ℕ) (form : ExprForm-F ExprForm Expr Instance) (p : Place) (rest : List (Item Value)) → IsSumForm k form → AreSmall rest → AreSmall (form_items (λ e. e) expr_items form p rest)
sum_form k (ExprForm-F.Bin key a b) p rest (sign, left, right) small = operand k a (expr_items b (item.Bin p key ∷ rest)) left (operand k b (item.Bin p key ∷ rest) right (small_sign key sign, small))
sum_form k (ExprForm-F.Num n) p rest is small = (tt, small)
sum_form k (ExprForm-F.Local i) p rest is small = (tt, small)
sum_form k form p rest is small = absurd is

sum : (k : ℕ) (e : Expr) (rest : List (Item Value)) → IsSum k e → AreSmall rest → AreSmall (expr_items e rest)
sum k e rest is small = subst AreSmall (sym (expr_items_is e rest)) (sum_form k (out-ExprForm e.form) e.place rest is small)

equation_form : (k : ℕ) (form : ExprForm-F ExprForm Expr Instance) (p : Place) (rest : List (Item Value)) → IsEquationForm k form → AreSmall rest → AreSmall (form_items (λ e. e) expr_items form p rest)
equation_form k (ExprForm-F.Bin key a b) p rest (same, left, right) small = sum k a (expr_items b (item.Bin p key ∷ rest)) left (sum k b (item.Bin p key ∷ rest) right (inr (inr same), small))
equation_form k form p rest is small = absurd is

equation : (k : ℕ) (e : Expr) (rest : List (Item Value)) → IsEquation k e → AreSmall rest → AreSmall (expr_items e rest)
equation k e rest is small = subst AreSmall (sym (expr_items_is e rest)) (equation_form k (out-ExprForm e.form) e.place rest is small)

printed : (k : ℕ) (args : List PrintArg) (rest : List (Item Value)) → IsPrinted k args → AreSmall rest → AreSmall (printed_items args rest)
printed k (arg.Value e ∷ []) rest is small = sum k e rest is small
printed k args rest is small = absurd is

stmt_form : (n k : ℕ) (form : StmtForm-F StmtForm Stmt) (p : Place) (rest : List (Item Value)) → IsSmallStmtForm n k form → AreSmall rest → AreSmall (stmt_form_items form p rest)
stmt_form n k StmtForm-F.Pass p rest is small = (tt, small)
stmt_form n k (StmtForm-F.Store i e) p rest (known, there, is) small = sum k e (item.Store i ∷ rest) is (tt, small)
stmt_form n k (StmtForm-F.Check e) p rest is small = equation k e (item.Check p ∷ rest) is (tt, small)
stmt_form n k (StmtForm-F.Print args) p rest is small = printed k args (item.Print args ∷ rest) is (tt, small)
stmt_form n k form p rest is small = absurd is

body : (n k : ℕ) (ss : List Stmt) (rest : List (Item Value)) → IsSmallBody n k ss → AreSmall rest → AreSmall (making_items ss 0 rest)
body n k [] rest is small = small
body n k (s ∷ ss) rest (first, more) small = stmt_form n k (out-StmtForm s.form) s.place (making_items ss 0 rest) first (body n (assigned_behind k s) ss rest more small)

-- the items of a small method are small
pub method : (run : Method) → IsSmallMethod run → AreSmall (method_items run)
method run is = subst (λ (k : ℕ). AreSmall (making_items run.body k (item.End ∷ []))) (sym is.makes_nothing) (body (length run.locals) 0 run.body (item.End ∷ []) is.body_is_small (tt, tt))
