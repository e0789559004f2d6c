-- A frame that waits for a call.
use Rattle.std.specs.Prelude.{ℕ, List, ◌∷◌, Option, Some, None}
use Rattle.py_base.specs.declared.Place.{Place}
use Rattle.py_syntax.specs.declared.Value.{Value}
use Rattle.py_syntax.specs.declared.Module.{Module}
use Rattle.py_syntax.specs.declared.Gives.{Gives}
use Rattle.py_syntax.specs.declared.Gives.TheVariants.{Result, Made, Nothing}
use Rattle.py_syntax.specs.declared.Item.{Item}
use Rattle.py_syntax.specs.declared.Item.TheVariants as item
use Rattle.py_syntax.specs.WaysOut.{Ending}
use Rattle.machine_model.specs.declared.Object.{Object}
use Rattle.machine_model.specs.declared.Frame.{Frame}
use Rattle.machine_model.specs.declared.Halt.TheVariants.{NoOperand}
use Rattle.machine_model.specs.Results.{Res, Stops, Width}
use Rattle.machine_model.specs.Calls.{both_exit_tests}
use Rattle.machine_deeds.specs.declared.Gain.{Gain}
use Rattle.machine_deeds.specs.declared.Gain.TheVariants as gain

-- the call that a control waits for
abbrev pub called_of : List (Item Value) → Option (Place × ℕ × Gives Value)
called_of (item.Called p static gives ∷ rest) = Some (p, static, gives)
called_of control = None

-- what a call leaves on its caller's stack
abbrev pub gain_of : Gives Value → Value → Gain
gain_of Result v = gain.OnStack v
gain_of (Made r) v = gain.OnStack r
gain_of Nothing v = gain.Nothing

-- what is tested where a frame ends and a caller has this control
abbrev pub caller_tests : Width → Module → ℕ → List Object → Frame → Ending Value → List (Item Value) → Res (Unit {0})
caller_tests fits m t heap f ending (item.Called p static gives ∷ rest) = both_exit_tests fits m t heap f ending p static
caller_tests fits m t heap f ending control = Stops NoOperand
