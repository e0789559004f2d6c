-- The parts that items are made of: the value stack, the locals, and what an item leaves.
use Rattle.std.specs.Prelude.{ℕ, zero, suc, ℤ, Bool, true, false, List, [], ◌∷◌, ◌++◌, map, length, replicate, Option, Some, None, slice_get, slice_set, nat_eq, nat_lt, not, filter, if◌then◌else◌}
use Rattle.std.specs.Option.{option_and_then}
use Rattle.std.specs.List.{list_any}
use Rattle.py_base.specs.declared.Place.{Place}
use Rattle.py_base.specs.declared.Kind.TheVariants as kind
use Rattle.py_syntax.specs.declared.Value.{Value}
use Rattle.py_syntax.specs.declared.Value.TheVariants.{Num, Truth, Nil, Ref}
use Rattle.py_syntax.specs.declared.Assertion.{Assertion, fold-Assertion}
use Rattle.py_syntax.specs.declared.AtomForm.{AtomForm-F}
use Rattle.py_syntax.specs.declared.Method.{Method}
use Rattle.py_syntax.specs.Control.{opened}
use Rattle.py_syntax.specs.StmtItems.{method_items}
use Rattle.py_syntax.specs.WaysOut.{Ending}
use Rattle.machine_model.specs.declared.state.Object.{Object}
use Rattle.machine_model.specs.declared.state.Frame.{Frame}
use Rattle.machine_model.specs.declared.state.ThreadState.{ThreadState}
use Rattle.machine_model.specs.declared.event.EventForm.{EventForm}
use Rattle.machine_model.specs.declared.halt.Halt.TheVariants as halt
use Rattle.machine_model.specs.Results.{Res, Got, Stops, then_do, of_option}
use Rattle.machine_model.specs.Heap.{owns}
use Rattle.machine_model.specs.Duties.{Duty, measure_of, caps_of}

-- a member that must be there
abbrev pub operand : {A : Type 0} → Option A → Res A
operand = of_option halt.NoOperand

abbrev pub pop_value : List Value → Res (Value × List Value)
pop_value [] = Stops halt.NoOperand
pop_value (v ∷ st) = Got (v, st)

abbrev pub pop_truth : List Value → Res (Bool × List Value)
pop_truth (Truth b ∷ st) = Got (b, st)
pop_truth st = Stops halt.NoOperand

abbrev pub pop_number : List Value → Res (ℤ × List Value)
pop_number (Num z ∷ st) = Got (z, st)
pop_number st = Stops halt.NoOperand

-- the topmost reference; None there is kind 3 at the place
abbrev pub pop_receiver : Place → List Value → Res (ℕ × List Value)
pop_receiver p (Ref r ∷ st) = Got (r, st)
pop_receiver p (Nil ∷ st) = Stops (halt.Failed kind.NoneReceiver p)
pop_receiver p st = Stops halt.NoOperand

-- so many arguments in front of the others, the last one being on top
abbrev pub pop_onto : ℕ → List Value → List Value → Res (List Value × List Value)
pop_onto zero args st = Got (args, st)
pop_onto (suc n) args st = then_do (pop_value st) (λ v. pop_onto n (v.0 ∷ args) v.1)

abbrev pub pop_arguments : ℕ → List Value → Res (List Value × List Value)
pop_arguments n st = pop_onto n [] st

-- the value of a local that has one
abbrev pub local_at : ℕ → List (Option Value) → Res Value
local_at i store = operand (option_and_then (λ v. v) (slice_get store i))

abbrev pub stored : ℕ → Value → List (Option Value) → Res (List (Option Value))
stored i v store = if nat_lt i (length store) then Got (slice_set store i (Some v)) else Stops halt.NoOperand

-- a frame as its method is entered: the arguments, then locals without a value
abbrev pub entered : ℕ → Method → List Object → List Value → List Duty → Frame
entered number method heap args ds = record {
  method = number;
  control = method_items method;
  stack = [];
  store = map (λ v. Some v) args ++ replicate (length method.locals) None;
  before = heap;
  measure = measure_of ds;
  caps = caps_of ds;
  turns = [];
}

-- What an item leaves: the heap, the frames of its thread, whether the thread has ended, a thread that it started, the event and the printed line, and the call that it ended.
pub record After : Type 0 where
  pub heap : List Object
  pub frames : List Frame
  pub ended : Bool
  pub started : Option ThreadState
  pub event : Option EventForm
  pub line : Option (List ℕ)
  pub call : Option (ℕ × Ending Value)

-- the thread goes on with these frames
abbrev pub goes_on : List Object → List Frame → Res After
goes_on heap frames = Got (record { heap = heap; frames = frames; ended = false; started = None; event = None; line = None; call = None })

-- the running frame goes on; a `finally` block behind the block that has ended is entered
abbrev pub stays : List Object → Frame → List Frame → Res After
stays heap f below = goes_on heap (record f { control = opened f.control } ∷ below)

-- the same, and others see an event
abbrev pub stays_with : EventForm → List Object → Frame → List Frame → Res After
stays_with event heap f below = then_do (stays heap f below) (λ a. Got (record a { event = Some event }))

-- whether assertions have `MustTerminate`, which stands at top level
abbrev pub atom_terminates : AtomForm-F Bool Bool → Bool
atom_terminates (AtomForm-F.Both all) = list_any (λ b. b) all
atom_terminates (AtomForm-F.Terminates e) = true
atom_terminates form = false

abbrev pub must_terminate : List Assertion → Bool
must_terminate all = list_any (fold-Assertion Bool Bool atom_terminates (λ a. a.form)) all

-- the measures of open loops once these loops are left
abbrev pub drop_turns : List (List Assertion) → List ℤ → List ℤ
drop_turns [] turns = turns
drop_turns (invariant ∷ left) [] = []
drop_turns (invariant ∷ left) (n ∷ turns) = if must_terminate invariant then drop_turns left turns else drop_turns left (n ∷ turns)

-- the caps that stay once a call has ended: those for locks that the thread owns
abbrev pub kept_caps : List Object → ℕ → List (ℕ × ℤ) → List (ℕ × ℤ)
kept_caps heap t caps = filter (λ (c : ℕ × ℤ). owns heap t c.0) caps

-- the caps without the one for a lock
abbrev pub caps_without : ℕ → List (ℕ × ℤ) → List (ℕ × ℤ)
caps_without r caps = filter (λ (c : ℕ × ℤ). not (nat_eq c.0 r)) caps
