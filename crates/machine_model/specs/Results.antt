-- What an item gives, or why it isn't done; and how a call of the code agrees with that.
use Rattle.std.specs.Prelude.{ℤ, Bool, Option, Some, None, if◌then◌else◌}
use Rattle.py_base.specs.declared.Place.{Place}
use Rattle.py_base.specs.declared.Kind.{Kind}
use Rattle.py_syntax.specs.declared.Value.{Value}
use Rattle.py_syntax.specs.declared.Value.TheVariants.{Num, Truth, Nil, Ref}
use Rattle.machine_model.specs.declared.halt.Halt.{Halt}
use Rattle.machine_model.specs.declared.halt.Halt.TheVariants as halt

pub data Res (A : Type 0) : Type 0 where
  Got : A → Res A
  Stops : Halt → Res A

-- goes on with what was got
abbrev pub then_do : {A B : Type 0} → Res A → (A → Res B) → Res B
then_do (Got a) f = f a
then_do (Stops h) f = Stops h

-- a value that must be there
abbrev pub of_option : {A : Type 0} → Halt → Option A → Res A
of_option h None = Stops h
of_option h (Some a) = Got a

-- a test of a kind at a place
abbrev pub tested : Kind → Place → Bool → Res (Unit {0})
tested kind p b = if b then Got tt else Stops (halt.Failed kind p)

-- The width is handed in: the numbers that it lets through. Whole numbers let all through.
abbrev pub Width : Type 0
Width = ℤ → Bool

-- a value, whose number must be within the width; else its expression is too large
abbrev pub sized : Width → Place → Value → Res Value
sized fits p (Num z) = if fits z then Got (Num z) else Stops (halt.Wide p)
sized fits p (Truth b) = Got (Truth b)
sized fits p Nil = Got Nil
sized fits p (Ref r) = Got (Ref r)
