-- How what was read of a way out agrees with what the definition of a run says of it.
use Rattle.std.specs.Prelude.{◌≡◌, ⊤, List, ◌∷◌, Result, Ok, Err}
use Rattle.py_syntax.specs.declared.Value.{Value}
use Rattle.machine_model.specs.declared.Object.{Object}
use Rattle.machine_model.specs.declared.Frame.{Frame}
use Rattle.machine_model.specs.Results.{Res, Got, Stops}
use Rattle.machine_model.specs.Frames.{After}
use Rattle.machine_values.specs.declared.Stop.{Stop}
use Rattle.machine_values.specs.declared.Stop.TheVariants.{Halt, OutOfMemory}
use Rattle.machine_deeds.specs.Deeds.{done}
use Rattle.machine_items.specs.declared.moment.Moment.{Moment}
use Rattle.machine_items.specs.declared.leaving.Outcome.{Outcome}
use Rattle.machine_items.specs.declared.leaving.Outcome.TheVariants.{Goes, Left}
use Rattle.machine_items.specs.Deeds.{running, waiting_below}

-- what an outcome leaves, where a method that is left with a value ends in this way
abbrev pub outcome_in : (Value → Res After) → Moment → Outcome → Res After
outcome_in ends at (Goes d) = Got (done d at.heap.now (at.frame.now ∷ waiting_below at))
outcome_in ends at (Left v) = ends v

abbrev pub ComesTo : {T : Type 0} → Res After → Result T Stop → (T → Res After) → Type 0
ComesTo r (Ok x) seen = r ≡ seen x
ComesTo r (Err (Halt h)) seen = r ≡ Stops h
ComesTo r (Err OutOfMemory) seen = ⊤

-- The outcome is what the definition gives, however the method ends where it is left.
abbrev pub IsOutcome : ((Value → Res After) → List Object → Frame → List Frame → Res After) → Moment → Result Outcome Stop → Type 0
IsOutcome act at outcome = (ends : Value → Res After) → ComesTo (act ends at.heap.now (running at) (waiting_below at)) outcome (outcome_in ends at)
