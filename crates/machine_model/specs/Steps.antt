-- The first state of a run, the step of one thread, and the run that a list of thread numbers makes. The definitions are over whole numbers where every number fits.
use Rattle.std.specs.Prelude.{ℕ, true, false, List, [], ◌∷◌, ◌++◌, length, replicate, Option, Some, None, slice_get, slice_set, if◌then◌else◌}
use Rattle.py_base.specs.declared.Place.{Place}
use Rattle.py_base.specs.declared.Kind.{Kind}
use Rattle.py_syntax.specs.declared.Value.{Value}
use Rattle.py_syntax.specs.declared.Method.{Method}
use Rattle.py_syntax.specs.declared.Module.{Module}
use Rattle.py_syntax.specs.declared.Item.{Item}
use Rattle.py_syntax.specs.declared.Item.TheVariants as item
use Rattle.py_syntax.specs.StmtItems.{method_items}
use Rattle.py_syntax.specs.WaysOut.{Ending}
use Rattle.machine_model.specs.declared.state.Object.{Object}
use Rattle.machine_model.specs.declared.state.Frame.{Frame}
use Rattle.machine_model.specs.declared.state.ThreadState.{ThreadState}
use Rattle.machine_model.specs.declared.state.State.{State}
use Rattle.machine_model.specs.declared.event.Event.{Event}
use Rattle.machine_model.specs.declared.event.EventForm.{EventForm}
use Rattle.machine_model.specs.declared.halt.Halt.TheVariants as halt
use Rattle.machine_model.specs.Results.{Res, Got, Stops, then_do, of_option, Width}
use Rattle.machine_model.specs.Duties.{measure_of, caps_of}
use Rattle.machine_model.specs.Moments.{at_atom, scene_of}
use Rattle.machine_model.specs.Frames.{After}
use Rattle.machine_model.specs.Calls.{method_at, entry_duties}
use Rattle.machine_model.specs.Items.{act}

-- the frame of `main` before its first item
abbrev pub first_frame : ℕ → Method → Frame
first_frame number method = record {
  method = number;
  control = item.Begin ∷ method_items method;
  stack = [];
  store = replicate (length method.locals) None;
  before = [];
  measure = None;
  caps = [];
  turns = [];
}

abbrev pub first_frames : Module → Option Method → List Frame
first_frames m None = []
first_frames m (Some method) = first_frame m.main method ∷ []

-- the first state: an empty heap, and thread 0 with one frame of `main`
abbrev pub first_state : Module → State
first_state m = record { heap = []; threads = record { frames = first_frames m (slice_get m.methods m.main); own = None; ended = false } ∷ [] }

-- The first item of `main` makes its entry tests, whose faults stand at the atoms, and sets its measure and caps.
abbrev pub entry_of_main : Width → Module → ℕ → List Object → Frame → Res Frame
entry_of_main fits m t heap f =
    then_do (method_at m f.method) (λ method.
    then_do (entry_duties fits m t heap at_atom None [] (scene_of m heap heap f.store None) method) (λ ds.
    Got (record f { measure = measure_of ds; caps = caps_of ds })))

-- the next item of the running frame
abbrev pub control_step : Width → Module → ℕ → List ThreadState → List Object → Frame → List Frame → List (Item Value) → Res After
control_step fits m t threads heap f below [] = Stops halt.NoOperand
control_step fits m t threads heap f below (item.Begin ∷ []) = Stops halt.NoOperand
control_step fits m t threads heap f below (item.Begin ∷ i ∷ control) =
    then_do (entry_of_main fits m t heap f) (λ g. act fits m t threads heap (record g { control = control }) below i)
control_step fits m t threads heap f below (i ∷ control) = act fits m t threads heap (record f { control = control }) below i

abbrev pub frames_step : Width → Module → ℕ → List ThreadState → List Object → List Frame → Res After
frames_step fits m t threads heap [] = Stops halt.NoOperand
frames_step fits m t threads heap (f ∷ below) = control_step fits m t threads heap f below f.control

-- a thread that has ended can't move
abbrev pub thread_step : Width → Module → ℕ → State → ThreadState → Res After
thread_step fits m t s th = if th.ended then Stops halt.Waits else frames_step fits m t s.threads s.heap th.frames

-- a thread that isn't there can't move
abbrev pub state_step : Width → Module → State → ℕ → Res After
state_step fits m s t = then_do (of_option halt.Waits (slice_get s.threads t)) (thread_step fits m t s)

abbrev pub with_started : Option ThreadState → List ThreadState → List ThreadState
with_started None threads = threads
with_started (Some th) threads = threads ++ th ∷ []

abbrev pub own_of : Option ThreadState → Option ℕ
own_of None = None
own_of (Some th) = th.own

-- the state once thread t has done its item
abbrev pub state_after : State → ℕ → After → State
state_after s t a = record { heap = a.heap; threads = with_started a.started (slice_set s.threads t (record { frames = a.frames; own = own_of (slice_get s.threads t); ended = a.ended })) }

-- What a step of a thread comes to.
pub data Stepped : Type 0 where
  Same : Stepped  -- it could not move
  Went : After → State → Stepped  -- it did its item
  Fails : Kind → Place → Stepped  -- a test failed, and the state is as it was
  TooLarge : Place → Stepped  -- a number is too large, and the state is as it was

abbrev pub settle : State → ℕ → Res After → Stepped
settle s t (Got a) = Went a (state_after s t a)
settle s t (Stops halt.Waits) = Same
settle s t (Stops halt.NoOperand) = Same
settle s t (Stops (halt.Failed kind_of p)) = Fails kind_of p
settle s t (Stops (halt.Wide p)) = TooLarge p

-- The step of a thread in a state.
abbrev pub step : Width → Module → State → ℕ → Stepped
step fits m s t = settle s t (state_step fits m s t)

-- whole numbers all fit
abbrev pub whole : Width
whole z = true

-- A run so far: its state, the lines that it printed, its events, the tests that failed, and the calls that have ended.
pub record Run : Type 0 where
  pub state : State
  pub lines : List (List ℕ)
  pub events : List Event
  pub faults : List (Kind × Place × ℕ)
  pub calls : List (ℕ × Ending Value)

abbrev pub one_of : {A : Type 0} → Option A → List A
one_of None = []
one_of (Some x) = x ∷ []

abbrev pub event_by : ℕ → Option EventForm → List Event
event_by t None = []
event_by t (Some form) = record { thread = t; form = form } ∷ []

abbrev pub run_after : Run → ℕ → Stepped → Run
run_after r t Same = r
run_after r t (Went a s) = record { state = s; lines = r.lines ++ one_of a.line; events = r.events ++ event_by t a.event; faults = r.faults; calls = r.calls ++ one_of a.call }
run_after r t (Fails kind_of p) = record r { faults = r.faults ++ (kind_of, p, t) ∷ [] }
run_after r t (TooLarge p) = r

-- the steps of these threads, one after another
abbrev pub continued : Module → Run → List ℕ → Run
continued m r [] = r
continued m r (t ∷ ts) = continued m (run_after r t (step whole m r.state t)) ts

abbrev pub first_run : Module → Run
first_run m = record { state = first_state m; lines = []; events = []; faults = []; calls = [] }

-- The run that a list of thread numbers makes.
abbrev pub after : Module → List ℕ → Run
after m list = continued m (first_run m) list
