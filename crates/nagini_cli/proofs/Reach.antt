-- How far from 0 the values of a small function are.
use Rattle.std.proofs.Common.{◌≡◌, ◌∙◌, ℕ, ◌+◌, ◌≤◌, List, length, true, false, cond, eqb, ℤ, pos, ◌+ℤ◌, ◌-ℤ◌, replicate, inl, inr, lit<, arith}
use Rattle.std.proofs.Math.Nat.{mul-le-mul_left, pow-le-pow_right}
use Rattle.std.proofs.lemmas.Bool.{cases_lt}
use Rattle.std.proofs.lemmas.List.{get_or_past}
use Rattle.std.proofs.lemmas.Int.{ints}
use Rattle.std.proofs.lemmas.Grind.{common_steps}
use Rattle.std.proofs.lemmas.List.Elements.{All-set, All-weaker, All-get_or, All-replicate}
use Rattle.py_syntax.specs.declared.Expr.{Expr, out-Expr, fold_out-Expr}
use Rattle.py_syntax.specs.declared.ExprForm.{ExprForm, ExprForm-F, out-ExprForm, fold-ExprForm, map-ExprForm, fold_out-ExprForm}
use Rattle.py_syntax.specs.declared.Instance.{Instance, fold-Instance}
use Rattle.py_syntax.specs.declared.Stmt.{Stmt, out-Stmt}
use Rattle.py_syntax.specs.declared.StmtForm.{StmtForm, StmtForm-F, out-StmtForm}
use Rattle.nagini_cli.specs.SmallRun.{Meaning, form_meaning, expr_meaning, instance_meaning, value_of, applied, local_value, after_form, after}
use Rattle.small_module.specs.SmallBody.{IsWithin, AreWithin, reach, IsOperandForm, IsOperand, IsSmallForm, IsSmall, IsSmallStmtForm, IsSmallStmt}

-- one more statement doubles the reach
pub reach-more : (k : ℕ) → reach (k + 1) ≡ reach k + reach k
reach-more k = grind (arith, common_steps)

pub reach_up : (j k : ℕ) → j ≤ k → reach j ≤ reach k
reach_up j k h = mul-le-mul_left 1000000000 (pow-le-pow_right {n = 2} (lit< tt) h)

pub IsWithin-wider : (a b : ℕ) (z : ℤ) → a ≤ b → IsWithin a z → IsWithin b z
IsWithin-wider a b z h w = record { low = omega (arith, ints); high = omega (arith, ints) }

pub AreWithin-wider : (a b : ℕ) (values : List ℤ) → a ≤ b → AreWithin a values → AreWithin b values
AreWithin-wider a b values h w = record { each = All-weaker (IsWithin a) (IsWithin b) (λ z. IsWithin-wider a b z h) values w.each }

IsWithin-zero : (b : ℕ) → IsWithin b (pos 0)
IsWithin-zero b = record { low = omega (arith, ints); high = omega (arith, ints) }

IsWithin-add : (b : ℕ) (x y : ℤ) → IsWithin b x → IsWithin b y → IsWithin (b + b) (x +ℤ y)
IsWithin-add b x y v w = record { low = omega (arith, ints); high = omega (arith, ints) }

IsWithin-sub : (b : ℕ) (x y : ℤ) → IsWithin b x → IsWithin b y → IsWithin (b + b) (x -ℤ y)
IsWithin-sub b x y v w = record { low = omega (arith, ints); high = omega (arith, ints) }

-- the value of one level of an expression
unfoldable pub form_value : ExprForm-F ExprForm Expr Instance → Meaning
form_value form = form_meaning (map-ExprForm ExprForm Expr Instance Meaning Meaning (Unit {0}) (fold-ExprForm Meaning Meaning (Unit {0}) form_meaning expr_meaning instance_meaning) value_of (fold-Instance Meaning Meaning (Unit {0}) form_meaning expr_meaning instance_meaning) form)

pub value_of-out : (e : Expr) → value_of e ≡ form_value (out-ExprForm (out-Expr e).form)
unfolding form_value
value_of-out e = fold_out-Expr Meaning Meaning (Unit {0}) form_meaning expr_meaning instance_meaning e ∙ fold_out-ExprForm Meaning Meaning (Unit {0}) form_meaning expr_meaning instance_meaning (out-Expr e).form

local_value-within : (b i : ℕ) (locals : List ℤ) → AreWithin b locals → IsWithin b (local_value i locals)
local_value-within b i locals w = elim (cases_lt i (length locals)) as (λ _. IsWithin b (local_value i locals)) [ inl h ↦ All-get_or (IsWithin b) locals i (pos 0) h w.each | inr h ↦ rw (get_or_past locals i (pos 0) h) (IsWithin-zero b) ]

operand_form-within : (b : ℕ) (locals : List ℤ) (form : ExprForm-F ExprForm Expr Instance) → reach 0 ≤ b → IsOperandForm form → AreWithin b locals → IsWithin b (form_value form locals)
unfolding form_value
operand_form-within b locals (ExprForm-F.Num z) low small w = IsWithin-wider _ _ z low small
operand_form-within b locals (ExprForm-F.Local i) low small w = local_value-within b i locals w
operand_form-within b locals _ low small w = absurd small

operand-within : (b : ℕ) (locals : List ℤ) (e : Expr) → reach 0 ≤ b → IsOperand e → AreWithin b locals → IsWithin b (value_of e locals)
operand-within b locals e low small w = rw (value_of-out e) (operand_form-within b locals (out-ExprForm (out-Expr e).form) low small w)

applied-within : (b key : ℕ) (x y : ℤ) → IsWithin b x → IsWithin b y → IsWithin (b + b) (applied key x y)
applied-within b key x y v w = elim (eqb key 1) as (λ t. IsWithin (b + b) (cond t (x +ℤ y) (cond (eqb key 2) (x -ℤ y) (pos 0)))) [ true ↦ IsWithin-add b x y v w | false ↦ elim (eqb key 2) as (λ t. IsWithin (b + b) (cond t (x -ℤ y) (pos 0))) [ true ↦ IsWithin-sub b x y v w | false ↦ IsWithin-zero (b + b) ] ]

form-within : (b : ℕ) (locals : List ℤ) (form : ExprForm-F ExprForm Expr Instance) → reach 0 ≤ b → IsSmallForm form → AreWithin b locals → IsWithin (b + b) (form_value form locals)
unfolding form_value
form-within b locals (ExprForm-F.Bin key x y) low small w = applied-within b key _ _ (operand-within b locals x low small.0 w) (operand-within b locals y low small.1 w)
form-within b locals (ExprForm-F.Num z) low small w = IsWithin-wider _ _ z (omega arith) small
form-within b locals (ExprForm-F.Local i) low small w = IsWithin-wider b (b + b) _ (omega arith) (local_value-within b i locals w)
form-within b locals _ low small w = absurd small

pub value-within : (b : ℕ) (locals : List ℤ) (e : Expr) → reach 0 ≤ b → IsSmall e → AreWithin b locals → IsWithin (b + b) (value_of e locals)
value-within b locals e low small w = rw (value_of-out e) (form-within b locals (out-ExprForm (out-Expr e).form) low small w)

after_form-within : (b : ℕ) (locals : List ℤ) (form : StmtForm-F StmtForm Stmt) → reach 0 ≤ b → IsSmallStmtForm form → AreWithin b locals → AreWithin (b + b) (after_form form locals)
after_form-within b locals (StmtForm-F.Store i e) low small w = record { each = All-set (IsWithin (b + b)) locals i (value_of e locals) (value-within b locals e low small w) (AreWithin-wider b (b + b) locals (omega arith) w).each }
after_form-within b locals _ low small w = AreWithin-wider b (b + b) locals (omega arith) w

-- no value is further from 0 than twice as far as before
pub after-within : (b : ℕ) (locals : List ℤ) (s : Stmt) → reach 0 ≤ b → IsSmallStmt s → AreWithin b locals → AreWithin (b + b) (after s locals)
after-within b locals s low small w = after_form-within b locals (out-StmtForm (out-Stmt s).form) low small w

pub AreWithin-zeros : (n : ℕ) → AreWithin (reach 0) (replicate n (pos 0))
AreWithin-zeros n = record { each = All-replicate (IsWithin (reach 0)) n (pos 0) (IsWithin-zero (reach 0)) }

-- behind one more statement the values are within one more reach
pub reach-after : (k : ℕ) (locals : List ℤ) (s : Stmt) → IsSmallStmt s → AreWithin (reach k) locals → AreWithin (reach (k + 1)) (after s locals)
reach-after k locals s small w = rw (reach-more k) (after-within (reach k) locals s (reach_up 0 k (omega arith)) small w)

-- what a small function computes is within the last reach
pub reach-last : (k : ℕ) (locals : List ℤ) → k ≤ 60 → AreWithin (reach k) locals → AreWithin (reach 60) locals
reach-last k locals h w = AreWithin-wider (reach k) (reach 60) locals (reach_up k 60 h) w
