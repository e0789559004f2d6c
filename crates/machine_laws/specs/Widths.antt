-- What the width of numbers changes in a computation. A computation gives a result for every width: it computes numbers in turn, each at the place of its expression, and ends where one of them isn't within the width.
use Rattle.std.specs.Prelude.{◌≡◌, ℕ, ℤ, List, [], ◌∷◌, Option, Some, None, if◌then◌else◌}
use Rattle.py_base.specs.declared.Place.{Place}
use Rattle.py_syntax.specs.declared.Module.{Module}
use Rattle.machine_model.specs.declared.state.State.{State}
use Rattle.machine_model.specs.Results.{Width}
use Rattle.machine_model.specs.Steps.{Stepped, TooLarge, step, whole}

-- a number with the place of the expression that it is the value of
abbrev pub Computed : Type 0
Computed = Place × ℤ

-- the place of the first number that a width doesn't let through
abbrev pub first_too_large : Width → List Computed → Option Place
first_too_large fits [] = None
first_too_large fits (n ∷ more) = if fits n.1 then first_too_large fits more else Some n.0

-- a step over whole numbers, unless a number is too large
abbrev pub unless_too_large : Option Place → Stepped → Stepped
unless_too_large None stepped = stepped
unless_too_large (Some p) stepped = TooLarge p

-- A step computes these numbers, in this order: within every width it is the step over whole numbers where all of them fit, and else it stops at the first one that doesn't.
abbrev pub StepComputes : Module → State → ℕ → List Computed → Type 0
StepComputes m s t numbers = (fits : Width) → step fits m s t ≡ unless_too_large (first_too_large fits numbers) (step whole m s t)
