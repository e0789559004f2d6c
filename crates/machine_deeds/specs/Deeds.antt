-- What a deed leaves of a state: the heap, the frames of its thread, and what is seen of it.
use Rattle.std.specs.Prelude.{ℕ, zero, suc, ℤ, Bool, true, false, List, [], ◌∷◌, ◌++◌, drop, Option, Some, None, slice_get, slice_set}
use Rattle.std.specs.Option.{option_map}
use Rattle.py_syntax.specs.declared.Value.{Value}
use Rattle.py_syntax.specs.declared.Item.{Item}
use Rattle.py_syntax.specs.WaysOut.{Ending, Normal, Raised}
use Rattle.machine_model.specs.declared.state.Object.{Object}
use Rattle.machine_model.specs.declared.state.Frame.{Frame}
use Rattle.machine_model.specs.declared.state.ThreadState.{ThreadState}
use Rattle.machine_model.specs.declared.state.State.{State}
use Rattle.machine_model.specs.declared.event.EventForm.{EventForm}
use Rattle.machine_model.specs.declared.event.Trace.{Trace}
use Rattle.machine_model.specs.Frames.{After}
use Rattle.machine_model.specs.Steps.{own_of}
use Rattle.machine_deeds.specs.declared.deed.ControlDeed.{ControlDeed}
use Rattle.machine_deeds.specs.declared.deed.Gain.{Gain}
use Rattle.machine_deeds.specs.declared.deed.Gain.TheVariants.{Nothing, OnStack, OnTurns}
use Rattle.machine_deeds.specs.declared.deed.FrameDeed.{FrameDeed}
use Rattle.machine_deeds.specs.declared.deed.HeapDeed.{HeapDeed}
use Rattle.machine_deeds.specs.declared.deed.HeapDeed.TheVariants.{Same, Changes, Makes}
use Rattle.machine_deeds.specs.declared.deed.Ended.{Ended}
use Rattle.machine_deeds.specs.declared.deed.Ended.TheVariants.{Normally, By}
use Rattle.machine_deeds.specs.declared.deed.FramesDeed.{FramesDeed}
use Rattle.machine_deeds.specs.declared.deed.FramesDeed.TheVariants.{Goes, Enters, Leaves, Ends}
use Rattle.machine_deeds.specs.declared.deed.Deed.{Deed}

-- a control from which items have gone, with others on top
abbrev pub controlled : ControlDeed → List (Item Value) → List (Item Value)
controlled d control = d.items ++ drop d.dropped control

abbrev pub on_stack : Gain → List Value → List Value
on_stack Nothing st = st
on_stack (OnStack v) st = v ∷ st
on_stack (OnTurns n) st = st

abbrev pub on_turns : Gain → List ℤ → List ℤ
on_turns Nothing turns = turns
on_turns (OnStack v) turns = turns
on_turns (OnTurns n) turns = n ∷ turns

-- the locals, where one of them gets a value
abbrev pub stored_in : Option (ℕ × Value) → List (Option Value) → List (Option Value)
stored_in None store = store
stored_in (Some s) store = slice_set store s.0 (Some s.1)

abbrev pub capped : Option (List (ℕ × ℤ)) → List (ℕ × ℤ) → List (ℕ × ℤ)
capped None caps = caps
capped (Some new) caps = new

-- a frame once this was done to it
abbrev pub changed : FrameDeed → Frame → Frame
changed d f = record f {
  control = controlled d.control f.control;
  stack = on_stack d.gain (drop d.values_dropped f.stack);
  store = stored_in d.stored f.store;
  turns = on_turns d.gain (drop d.turns_dropped f.turns);
  caps = capped d.caps f.caps;
}

-- frames of which the one below so many others has changed
abbrev pub changed_at : FrameDeed → ℕ → List Frame → List Frame
changed_at d depth [] = []
changed_at d zero (f ∷ below) = changed d f ∷ below
changed_at d (suc depth) (f ∷ below) = f ∷ changed_at d depth below

abbrev pub frames_after : FramesDeed → List Frame → List Frame
frames_after (Goes d) frames = changed_at d 0 frames
frames_after (Enters d g) frames = g ∷ changed_at d 0 frames
frames_after (Leaves d e) frames = changed_at d 0 (drop 1 frames)
frames_after (Ends e) frames = []

-- whether the thread ends
abbrev pub ends : FramesDeed → Bool
ends (Goes d) = false
ends (Enters d g) = false
ends (Leaves d e) = false
ends (Ends e) = true

abbrev pub heap_after : HeapDeed → List Object → List Object
heap_after Same heap = heap
heap_after (Changes r o) heap = slice_set heap r o
heap_after (Makes o) heap = heap ++ o ∷ []

abbrev pub ending_of : Ended → Ending Value
ending_of (Normally v) = Normal v
ending_of (By c) = Raised c

abbrev pub ending_in : FramesDeed → Option (Ending Value)
ending_in (Goes d) = None
ending_in (Enters d g) = None
ending_in (Leaves d e) = Some (ending_of e)
ending_in (Ends e) = Some (ending_of e)

-- the call of the running frame, with its end
abbrev pub call_with : Option (Ending Value) → List Frame → Option (ℕ × Ending Value)
call_with e [] = None
call_with e (f ∷ below) = option_map (λ (x : Ending Value). (f.method, x)) e

-- What a deed leaves, where its thread has these frames.
abbrev pub done : Deed → List Object → List Frame → After
done d heap frames = record {
  heap = heap_after d.heap heap;
  frames = frames_after d.frames frames;
  ended = ends d.frames;
  started = d.started;
  event = d.event;
  line = d.line;
  call = call_with (ending_in d.frames) frames;
}

-- the frames of a thread, none if it isn't there
abbrev pub frames_of : Option ThreadState → List Frame
frames_of None = []
frames_of (Some th) = th.frames

abbrev pub frames_at : State → ℕ → List Frame
frames_at s t = frames_of (slice_get s.threads t)

-- the threads once thread t has moved
abbrev pub moved : FramesDeed → ℕ → List ThreadState → List ThreadState
moved d t threads = slice_set threads t (record { frames = frames_after d (frames_of (slice_get threads t)); own = own_of (slice_get threads t); ended = ends d })

-- what thread t shows of an item that left this
abbrev pub trace_of : ℕ → After → Trace
trace_of t a = record { event = option_map (λ (form : EventForm). record { thread = t; form = form }) a.event; line = a.line }
