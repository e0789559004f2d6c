-- The asserts of a small function: its statements are read from the first to the last, in whole numbers.
use Rattle.std.specs.Prelude.{◌≡◌, ◌++◌, codes, ℕ, Bool, false, not, List, [], ◌∷◌, length, replicate, slice_get, slice_index_or, slice_set, Option, Some, None, option_and_then, ◌==◌, if◌then◌else◌, ℤ, pos, ◌+ℤ◌, ◌-ℤ◌}
use Rattle.std.specs.Ordering.{int_eq}
use Rattle.py_base.specs.declared.Place.{Place}
use Rattle.py_base.specs.declared.Kind.TheVariants.{Assert}
use Rattle.py_syntax.specs.declared.Expr.{Expr, Expr-F, out-Expr, fold-Expr}
use Rattle.py_syntax.specs.declared.ExprForm.{ExprForm, ExprForm-F, out-ExprForm}
use Rattle.py_syntax.specs.declared.Instance.{Instance, Instance-F}
use Rattle.py_syntax.specs.declared.Stmt.{Stmt, out-Stmt}
use Rattle.py_syntax.specs.declared.StmtForm.{StmtForm, StmtForm-F, out-StmtForm}
use Rattle.py_syntax.specs.declared.Method.{Method}
use Rattle.py_syntax.specs.declared.Module.{Module}
use Rattle.nagini_cli.specs.Texts.{accepted_line, fault_line, not_proved_line}
use Rattle.nagini_cli.specs.declared.status.TheConstants.{ACCEPTED, NOT_PROVED}

-- what an expression gives where the locals have given values
abbrev pub Meaning : Type 0
Meaning = List ℤ → ℤ

-- the value of a local, or 0 where there is none of this number
abbrev pub local_value : ℕ → Meaning
local_value i locals = slice_index_or locals i (pos 0)

-- key 1 adds and key 2 subtracts
abbrev pub applied : ℕ → ℤ → ℤ → ℤ
applied key x y = if key == 1 then (x +ℤ y) else (if key == 2 then (x -ℤ y) else pos 0)

-- a form that small functions don't have counts as 0
abbrev pub form_meaning : ExprForm-F Meaning Meaning (Unit {0}) → Meaning
form_meaning (ExprForm-F.Num z) locals = z
form_meaning (ExprForm-F.Local i) locals = local_value i locals
form_meaning (ExprForm-F.Bin key a b) locals = applied key (a locals) (b locals)
form_meaning _ locals = pos 0

abbrev pub expr_meaning : Expr-F Meaning Meaning (Unit {0}) → Meaning
expr_meaning e = e.form

abbrev pub instance_meaning : Instance-F Meaning Meaning (Unit {0}) → Unit {0}
instance_meaning i = tt

-- the value of an expression, where the locals have these values
abbrev pub value_of : Expr → Meaning
value_of = fold-Expr Meaning Meaning (Unit {0}) form_meaning expr_meaning instance_meaning

-- the two sides of an equation, which has key 11, differ
abbrev pub differs_in : ExprForm-F ExprForm Expr Instance → List ℤ → Bool
differs_in (ExprForm-F.Bin key a b) locals = if key == 11 then not (int_eq (value_of a locals) (value_of b locals)) else false
differs_in _ locals = false

abbrev pub differs : Expr → List ℤ → Bool
differs e locals = differs_in (out-ExprForm (out-Expr e).form) locals

-- the statement is an assert that is false
abbrev pub is_false_form : StmtForm-F StmtForm Stmt → List ℤ → Bool
is_false_form (StmtForm-F.Check e) locals = differs e locals
is_false_form _ locals = false

abbrev pub is_false : Stmt → List ℤ → Bool
is_false s locals = is_false_form (out-StmtForm (out-Stmt s).form) locals

-- the values of the locals after the statement
abbrev pub after_form : StmtForm-F StmtForm Stmt → List ℤ → List ℤ
after_form (StmtForm-F.Store i e) locals = slice_set locals i (value_of e locals)
after_form _ locals = locals

abbrev pub after : Stmt → List ℤ → List ℤ
after s locals = after_form (out-StmtForm (out-Stmt s).form) locals

-- the place of the first of the statements that is a false assert
abbrev pub first_false_in : List Stmt → List ℤ → Option Place
first_false_in [] locals = None
first_false_in (s ∷ ss) locals = if is_false s locals then Some (out-Stmt s).place else first_false_in ss (after s locals)

-- each local is 0 before its first assignment
abbrev pub first_false_of : Method → Option Place
first_false_of method = first_false_in method.body (replicate (length method.locals) (pos 0))

-- the place of the first false assert of the module's `main`
abbrev pub first_false : Module → Option Place
first_false m = option_and_then first_false_of (slice_get m.methods m.main)

-- the report of one false assert of `main`
abbrev pub false_assert_text : Place → List ℕ
false_assert_text place = fault_line place Assert (codes "main") ++ not_proved_line 1

-- what is said of a small module whose first false assert is this
abbrev pub IsVerdict : Option Place → ℕ → List ℕ → Type 0
IsVerdict None status text = (status ≡ ACCEPTED) × (text ≡ accepted_line 1)
IsVerdict (Some place) status text = (status ≡ NOT_PROVED) × (text ≡ false_assert_text place)
