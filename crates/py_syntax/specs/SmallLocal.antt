-- How a method of a small module is checked by itself. A local run follows the control items of the body over a unit that is at least 1, and keeps each number in parts of it: a literal c is c times the unit. A comparison of two numbers that differ by less than the unit stops the run without a fault, so that what is found doesn't rest on whole numbers alone. These rules are the project's own.
use Rattle.std.specs.Prelude.{◌≡◌, ℕ, zero, suc, ℤ, pos, ◌+ℤ◌, ◌-ℤ◌, ◌*ℤ◌, ◌≤ℤ◌, int_lt, int_le, Bool, true, false, ◌&&◌, nat_eq, List, [], ◌∷◌, length, replicate, Option, Some, None, slice_get, slice_set, if◌then◌else◌}
use Rattle.std.specs.Option.{option_and_then}
use Rattle.py_base.specs.declared.Place.{Place}
use Rattle.py_base.specs.declared.Kind.{Kind}
use Rattle.py_base.specs.declared.Kind.TheVariants.{Assert}
use Rattle.py_syntax.specs.declared.value.Value.{Value}
use Rattle.py_syntax.specs.declared.value.Value.TheVariants.{Num, Truth, Nil, Ref}
use Rattle.py_syntax.specs.declared.module.Method.{Method}
use Rattle.py_syntax.specs.declared.module.Module.{Module}
use Rattle.py_syntax.specs.declared.item.Item.{Item}
use Rattle.py_syntax.specs.declared.item.Item.TheVariants as item
use Rattle.py_syntax.specs.StmtItems.{method_items, values_wanted}
use Rattle.py_syntax.specs.Findings.{Finding}

-- how a local run ends
pub data Outcome : Type 0 where
  Ended : Outcome
  Stopped : Outcome
  Fault : Place → Kind → Outcome

-- what a rule needs is a fault of a kind at a place where it isn't so
abbrev pub needs : Place → Kind → Bool → Outcome → Outcome
needs p kind_of b next = if b then next else Fault p kind_of

-- what a rule hopes for stops the run where it isn't there
abbrev pub hopes : {A : Type 0} → Option A → (A → Outcome) → Outcome
hopes None next = Stopped
hopes (Some a) next = next a

-- the topmost value and those below it
abbrev pub top : List Value → Option (Value × List Value)
top [] = None
top (v ∷ st) = Some (v, st)

abbrev pub top_truth : List Value → Option (Bool × List Value)
top_truth (Truth b ∷ st) = Some (b, st)
top_truth st = None

-- the values below so many
abbrev pub below : ℕ → List Value → Option (List Value)
below zero st = Some st
below (suc n) [] = None
below (suc n) (v ∷ st) = below n st

-- whether two numbers are the same
abbrev pub are_same : ℤ → ℤ → Bool
are_same x y = int_le x y && int_le y x

-- whether two numbers differ by less than the unit
abbrev pub are_near : ℤ → ℤ → ℤ → Bool
are_near q x y = int_lt x (y +ℤ q) && int_lt y (x +ℤ q)

-- the comparison of two numbers, which stops where they are near and not the same
abbrev pub compared : ℤ → ℤ → ℤ → Option Value
compared q x y = if are_same x y then Some (Truth true) else (if are_near q x y then None else Some (Truth false))

-- `+`, `-` and `==` have the keys 1, 2 and 11
abbrev pub on_parts : ℤ → ℕ → ℤ → ℤ → Option Value
on_parts q key x y =
    if nat_eq key 1 then Some (Num (x +ℤ y)) else
    (if nat_eq key 2 then Some (Num (x -ℤ y)) else
    (if nat_eq key 11 then compared q x y else None))

abbrev pub applied : ℤ → ℕ → Value → Value → Option Value
applied q key (Num x) (Num y) = on_parts q key x y
applied q key v w = None

-- A local run in the unit q from these items on, over a value stack and the locals.
abbrev pub local_from : ℤ → List (Item Value) → List Value → List (Option Value) → Outcome
local_from q [] st store = Stopped
local_from q (item.Num n ∷ control) st store = local_from q control (Num (n *ℤ q) ∷ st) store
local_from q (item.Load i ∷ control) st store = hopes (option_and_then (λ v. v) (slice_get store i)) (λ v. local_from q control (v ∷ st) store)
local_from q (item.Bin p key ∷ control) st store = hopes (top st) (λ b. hopes (top b.1) (λ a. hopes (applied q key a.0 b.0) (λ c. local_from q control (c ∷ a.1) store)))
local_from q (item.Store i ∷ control) st store = hopes (top st) (λ v. local_from q control v.1 (slice_set store i (Some v.0)))
local_from q (item.Check p ∷ control) st store = hopes (top_truth st) (λ b. needs p Assert b.0 (local_from q control b.1 store))
local_from q (item.Print args ∷ control) st store = hopes (below (values_wanted args) st) (λ rest. local_from q control rest store)
local_from q (item.Pass ∷ control) st store = local_from q control st store
local_from q (item.End ∷ control) st store = Ended
local_from q (i ∷ control) st store = Stopped

-- The body of a method, checked in the unit q: its locals have no values yet.
abbrev pub local : ℤ → Method → Outcome
local q method = local_from q (method_items method) [] (replicate (length method.locals) None)

-- In some unit the local run of the finding's method ends in that fault.
pub record IsLocalFault (m : Module) (f : Finding) : Type 0 where
  pub method : Method
  pub unit : ℤ
  pub is : slice_get m.methods f.method ≡ Some method
  pub at_least_one : pos 1 ≤ℤ unit
  pub ends : local unit method ≡ Fault f.place f.kind

-- No method has a local fault.
abbrev pub HasNoLocalFault : Module → Type 0
HasNoLocalFault m = (f : Finding) → ¬ IsLocalFault m f
