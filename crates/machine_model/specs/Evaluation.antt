-- The value of an expression of a contract. It is read as an expression of code is evaluated, from left to right, but a step that isn't defined gives no value: a field that isn't there or of None, a zero divisor, None where an object is wanted, a local without a value. A number past the width ends the reading at its expression.
use Rattle.std.specs.Prelude.{ℕ, ℤ, Bool, true, false, List, [], ◌∷◌, Option, Some, None, slice_get, if◌then◌else◌}
use Rattle.std.specs.Option.{option_map, option_and_then}
use Rattle.py_base.specs.declared.Place.{Place}
use Rattle.py_syntax.specs.declared.Value.{Value}
use Rattle.py_syntax.specs.declared.Value.TheVariants.{Num, Truth, Nil, Ref}
use Rattle.py_syntax.specs.declared.Expr.{Expr, fold-Expr}
use Rattle.py_syntax.specs.declared.ExprForm.{ExprForm-F}
use Rattle.machine_model.specs.Results.{Res, Got, then_do, Width, sized}
use Rattle.machine_model.specs.Operators.{binary, unary}

-- What an expression is read in: the fields now and at the method's entry, the locals, the result, and of a lock or thread its level and object, which never change.
pub record Scene : Type 0 where
  pub now : ℕ → ℕ → Option Value
  pub before : ℕ → ℕ → Option Value
  pub store : List (Option Value)
  pub answer : Option Value
  pub level : ℕ → Option ℤ
  pub locked : ℕ → Option Value

-- a value, or none where the expression isn't defined
abbrev pub Reading : Type 0
Reading = Res (Option Value)

abbrev pub defined : Value → Reading
defined v = Got (Some v)

abbrev pub undefined : Reading
undefined = Got None

-- reads on with the value, where there is one
abbrev pub and_with : Option Value → (Value → Reading) → Reading
and_with None next = undefined
and_with (Some v) next = next v

abbrev pub with_value : Reading → (Value → Reading) → Reading
with_value r next = then_do r (λ v. and_with v next)

abbrev pub of_reference : Value → (ℕ → Reading) → Reading
of_reference (Ref r) next = next r
of_reference v next = undefined

abbrev pub of_truth : Value → (Bool → Reading) → Reading
of_truth (Truth b) next = next b
of_truth v next = undefined

-- the value that an operator gives at its place
abbrev pub given : Width → Place → Option Value → Reading
given fits p None = undefined
given fits p (Some v) = then_do (sized fits p v) defined

-- how an expression is read
abbrev pub Meaning : Type 0
Meaning = Scene → Reading

-- a chain goes on while its comparisons are true; each operand is read once
abbrev pub chain_from : Value → List Meaning → List ℕ → Meaning
chain_from v [] keys s = defined (Truth true)
chain_from v (e ∷ es) [] s = defined (Truth true)
chain_from v (e ∷ es) (key ∷ keys) s =
    with_value (e s) (λ w. and_with (binary key v w) (λ c. of_truth c (λ b. if b then chain_from w es keys s else defined (Truth false))))

abbrev pub chain_of : List Meaning → List ℕ → Meaning
chain_of [] keys s = undefined
chain_of (e ∷ es) keys s = with_value (e s) (λ v. chain_from v es keys s)

abbrev pub not_nil : Value → Reading
not_nil Nil = undefined
not_nil v = defined v

-- a form at its place, over how its parts are read; forms of code alone aren't defined
abbrev pub form_meaning : Width → ExprForm-F (Place → Meaning) Meaning (Unit {0}) → Place → Meaning
form_meaning fits (ExprForm-F.Num n) p s = defined (Num n)
form_meaning fits (ExprForm-F.Truth b) p s = defined (Truth b)
form_meaning fits ExprForm-F.Nil p s = defined Nil
form_meaning fits (ExprForm-F.Local i) p s = Got (option_and_then (λ v. v) (slice_get s.store i))
form_meaning fits (ExprForm-F.Get e f) p s = with_value (e s) (λ v. of_reference v (λ r. Got (s.now r f)))
form_meaning fits (ExprForm-F.Un key a) p s = with_value (a s) (λ v. given fits p (unary key v))
form_meaning fits (ExprForm-F.Bin key a b) p s = with_value (a s) (λ v. with_value (b s) (λ w. given fits p (binary key v w)))
form_meaning fits (ExprForm-F.Chain all keys) p s = chain_of all keys s
form_meaning fits (ExprForm-F.And a b) p s = with_value (a s) (λ v. of_truth v (λ x. if x then b s else defined (Truth false)))
form_meaning fits (ExprForm-F.Or a b) p s = with_value (a s) (λ v. of_truth v (λ x. if x then defined (Truth true) else b s))
form_meaning fits (ExprForm-F.Call f all) p s = undefined
form_meaning fits (ExprForm-F.Send e n all) p s = undefined
form_meaning fits (ExprForm-F.New c all) p s = undefined
form_meaning fits (ExprForm-F.NewLock c a b) p s = undefined
form_meaning fits (ExprForm-F.NewThread f all e) p s = undefined
form_meaning fits (ExprForm-F.Locked e) p s = with_value (e s) (λ v. of_reference v (λ r. Got (s.locked r)))
form_meaning fits (ExprForm-F.NotNil e) p s = with_value (e s) not_nil
form_meaning fits (ExprForm-F.Old e) p s = e (record s { now = s.before })
form_meaning fits ExprForm-F.Answer p s = Got s.answer
form_meaning fits (ExprForm-F.LevelOf e) p s = with_value (e s) (λ v. of_reference v (λ r. Got (option_map (λ z. Num z) (s.level r))))
form_meaning fits (ExprForm-F.Opened i e) p s = e s
form_meaning fits (ExprForm-F.Gives a b) p s = with_value (a s) (λ v. of_truth v (λ x. if x then b s else defined (Truth true)))

abbrev pub meaning : Width → Expr → Meaning
meaning fits = fold-Expr (Place → Meaning) Meaning (Unit {0}) (form_meaning fits) (λ e. e.form e.place) (λ i. tt)
