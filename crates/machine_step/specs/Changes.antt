-- What a frame and a thread are once an item is done.
use Rattle.std.specs.Prelude.{ℕ, Bool, true, false, List, [], ◌∷◌, drop, Option, Some, None, slice_get, slice_set, if◌then◌else◌}
use Rattle.py_syntax.specs.declared.Value.{Value}
use Rattle.py_syntax.specs.declared.Value.TheVariants.{Nil}
use Rattle.py_syntax.specs.declared.Item.{Item}
use Rattle.py_syntax.specs.declared.Item.TheVariants as item
use Rattle.py_syntax.specs.Control.{opened}
use Rattle.py_syntax.specs.WaysOut.{Normal}
use Rattle.machine_model.specs.declared.state.Object.{Object}
use Rattle.machine_model.specs.declared.state.Frame.{Frame}
use Rattle.machine_model.specs.declared.state.ThreadState.{ThreadState}
use Rattle.machine_model.specs.declared.state.State.{State}
use Rattle.machine_model.specs.declared.event.EventForm.TheVariants as event
use Rattle.machine_model.specs.Frames.{After}
use Rattle.machine_step.specs.declared.change.Change.{Change}
use Rattle.machine_step.specs.declared.change.Deed.{Deed}
use Rattle.machine_step.specs.declared.change.Plan.{Plan}
use Rattle.machine_step.specs.declared.change.Deed.TheVariants.{Stays, Ends}

-- whether an item is the mark at the start of `main`
abbrev pub is_begin : Item Value → Bool
is_begin item.Begin = true
is_begin i = false

-- a frame without its next item; with the mark at the start of `main` go its measure and caps
abbrev pub begun : Bool → Frame → Frame
begun first f = record f {
  control = drop (if first then 2 else 1) f.control;
  measure = if first then None else f.measure;
  caps = if first then [] else f.caps;
}

abbrev pub pushed_on : Option Value → List Value → List Value
pushed_on None st = st
pushed_on (Some v) st = v ∷ st

abbrev pub stored_in : Option (ℕ × Value) → List (Option Value) → List (Option Value)
stored_in None store = store
stored_in (Some s) store = slice_set store s.0 (Some s.1)

-- a frame whose item made this change
abbrev pub changed : Change → Frame → Frame
changed c f = record f { control = opened f.control; stack = pushed_on c.pushes (drop c.drops f.stack); store = stored_in c.stores f.store }

-- what is left of an item that made this change to the only frame of its thread
abbrev pub stayed : Change → List Object → Frame → After
stayed c heap f = record { heap = heap; frames = changed c f ∷ []; ended = false; started = None; event = None; line = c.line; call = None }

-- what is left of the last item of a thread
abbrev pub over : List Object → Frame → After
over heap f = record { heap = heap; frames = []; ended = true; started = None; event = Some event.Ended; line = None; call = Some (f.method, Normal Nil) }

abbrev pub done : Deed → List Object → Frame → After
done (Stays c) heap f = stayed c heap f
done Ends heap f = over heap f

-- the frames of thread t, none if it isn't there
abbrev pub frames_of : Option ThreadState → List Frame
frames_of None = []
frames_of (Some th) = th.frames

abbrev pub frames_at : State → ℕ → List Frame
frames_at s t = frames_of (slice_get s.threads t)

-- what is left once the plan for a thread's only frame is carried out
abbrev pub planned : Plan → List Object → List Frame → After
planned p heap [] = record { heap = heap; frames = []; ended = false; started = None; event = None; line = None; call = None }
planned p heap (f ∷ below) = done p.deed heap (begun p.first f)
