-- How a deed that was read agrees with what the definition of a run says of its item.
use Rattle.std.specs.Prelude.{List, ◌∷◌, drop, Result}
use Rattle.machine_model.specs.declared.Object.{Object}
use Rattle.machine_model.specs.declared.Frame.{Frame}
use Rattle.machine_model.specs.Results.{Res}
use Rattle.machine_model.specs.Frames.{After}
use Rattle.machine_values.specs.declared.Stop.{Stop}
use Rattle.machine_values.specs.Agreement.{Agrees}
use Rattle.machine_deeds.specs.declared.Deed.{Deed}
use Rattle.machine_deeds.specs.Deeds.{done}
use Rattle.machine_items.specs.declared.moment.Moment.{Moment}

-- the running frame without the item
abbrev pub running : Moment → Frame
running at = record at.frame.now { control = drop at.taken at.frame.now.control }

-- the frames that wait under it
abbrev pub waiting_below : Moment → List Frame
waiting_below at = drop 1 at.frames.now

-- The deed leaves what the definition gives for the heap, the running frame and the frames below it.
abbrev pub IsDeed : (List Object → Frame → List Frame → Res After) → Moment → Result Deed Stop → Type 0
IsDeed act at deed = Agrees (act at.heap.now (running at) (waiting_below at)) deed (λ d. done d at.heap.now (at.frame.now ∷ waiting_below at))
