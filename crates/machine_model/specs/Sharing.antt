-- Locks and threads (Standard Library reference, "Lock Objects" and "Thread Objects"): a lock isn't reentrant, a thread is started once, and a join waits until the thread has ended. That only the holder may release a lock is the project's own rule, and so are the target that `start` and `join` name and the contract tests.
use Rattle.std.specs.Prelude.{ℕ, zero, suc, ℤ, pos, Bool, true, false, not, ◌&&◌, ◌||◌, List, [], ◌∷◌, ◌++◌, map as each, length, Option, Some, None, slice_get, nat_eq, if◌then◌else◌}
use Rattle.std.specs.Option.{option_map_or}
use Rattle.std.specs.FinMap as map
use Rattle.py_base.specs.declared.Place.{Place}
use Rattle.py_base.specs.declared.Kind.TheVariants as kind
use Rattle.py_syntax.specs.declared.Value.{Value}
use Rattle.py_syntax.specs.declared.Value.TheVariants.{Num}
use Rattle.py_syntax.specs.declared.Class.{Class}
use Rattle.py_syntax.specs.declared.ClassSort.{ClassSort}
use Rattle.py_syntax.specs.declared.ClassSort.TheVariants.{Plain, Exc, LockOver}
use Rattle.py_syntax.specs.declared.Method.{Method}
use Rattle.py_syntax.specs.declared.Module.{Module}
use Rattle.machine_model.specs.declared.state.Object.{Object}
use Rattle.machine_model.specs.declared.state.Frame.{Frame}
use Rattle.machine_model.specs.declared.state.ThreadState.{ThreadState}
use Rattle.machine_model.specs.declared.event.EventForm.TheVariants as event
use Rattle.machine_model.specs.declared.halt.Halt.TheVariants as halt
use Rattle.machine_model.specs.Results.{Res, Got, Stops, then_do, tested, Width}
use Rattle.machine_model.specs.Heap.{field_of, with_owner, owns, is_held, has_target, target_name, level_name, argument_name}
use Rattle.machine_model.specs.Moments.{at_call, scene_of, lock_invariant_holds, owns_any, is_bound_by}
use Rattle.machine_model.specs.Frames.{After, operand, entered, stays_with, must_terminate, caps_without}
use Rattle.machine_model.specs.Calls.{method_at, entry_duties}

-- The thread waits where anyone holds the lock, itself too.
abbrev pub acquired : ℕ → List Object → ℕ → Res (List Object)
acquired t heap r = if is_held heap r then Stops halt.Waits else operand (with_owner heap r (Some t))

abbrev pub invariant_in : ClassSort → Option ℕ
invariant_in (LockOver c pred) = Some pred
invariant_in Plain = None
invariant_in Exc = None

-- the predicate that is the invariant of a lock's class
abbrev pub invariant_of : Module → ℕ → Res ℕ
invariant_of m c = then_do (operand (slice_get m.classes c)) (λ (class : Class). operand (invariant_in class.sort))

-- A release is tested for its holder, and then for the lock's invariant.
abbrev pub released : Width → Module → ℕ → List Object → ℕ → Place → Res (List Object)
released fits m t heap r p =
    then_do (tested kind.NotHeld p (owns heap t r)) (λ _.
    then_do (operand (slice_get heap r)) (λ (o : Object).
    then_do (invariant_of m o.class) (λ pred.
    then_do (lock_invariant_holds fits m heap pred r p) (λ _.
    operand (with_owner heap r None)))))

-- a frame that has released a lock has no cap for it
abbrev pub without_cap : ℕ → Frame → Frame
without_cap r f = record f { caps = caps_without r f.caps }

-- a new lock over an object, whose invariant is tested
abbrev pub lock_made : Width → Module → List Object → ℕ → ℕ → ℤ → Place → Res (List Object)
lock_made fits m heap c locked level p =
    let made : List Object = heap ++ record { class = c; fields = map.empty; lock = Some (record { owner = None; locked = locked; level = level }) } ∷ [] in
    then_do (invariant_of m c) (λ pred.
    then_do (lock_invariant_holds fits m made pred (length heap) p) (λ _. Got made))

-- the fields of a thread's object for its arguments, from the one of this number on
abbrev pub with_arguments : Module → ℕ → List Value → Object → Object
with_arguments m i [] o = o
with_arguments m i (v ∷ vs) o = with_arguments m (suc i) vs (record o { fields = map.insert o.fields (argument_name m i) v })

-- the object of a thread that isn't started
abbrev pub thread_object : Module → ℕ → ℤ → List Value → Object
thread_object m target level args =
    with_arguments m 0 args (record { class = length m.classes; fields = map.insert (map.insert map.empty (target_name m) (Num (pos target))) (level_name m) (Num level); lock = None })

-- the thread of an object, as its number and state, from the thread of this number on
abbrev pub thread_from : ℕ → ℕ → List ThreadState → Option (ℕ × ThreadState)
thread_from r i [] = None
thread_from r i (th ∷ more) = if option_map_or (nat_eq r) th.own false then Some (i, th) else thread_from r (suc i) more

-- the thread of an object, where it was started
abbrev pub thread_of : ℕ → List ThreadState → Option (ℕ × ThreadState)
thread_of r threads = thread_from r 0 threads

abbrev pub is_started : ℕ → List ThreadState → Bool
is_started r threads = option_map_or (λ x. true) (thread_of r threads) false

-- so many arguments of a thread's object, from the one of this number on
abbrev pub arguments_from : Module → List Object → ℕ → ℕ → ℕ → Res (List Value)
arguments_from m heap r i zero = Got []
arguments_from m heap r i (suc n) = then_do (operand (field_of heap r (argument_name m i))) (λ v. then_do (arguments_from m heap r (suc i) n) (λ vs. Got (v ∷ vs)))

-- Starts a thread: it wasn't started, and its target is the one that is named. The target's precondition is tested.
abbrev pub started : Width → Module → ℕ → List Object → List ThreadState → ℕ → ℕ → Place → Frame → List Frame → Res After
started fits m t heap threads r target p f below =
    then_do (tested kind.NotStartable p (not (is_started r threads) && has_target m heap r target)) (λ _.
    then_do (method_at m target) (λ (method : Method).
    then_do (arguments_from m heap r 0 (length method.params)) (λ args.
    then_do (entry_duties fits m t heap (at_call p) None [] (scene_of m heap heap (each (λ v. Some v) args) None) method) (λ ds.
    then_do (stays_with (event.Started (length threads)) heap f below) (λ a.
    Got (record a { started = Some (record { frames = entered target method heap args ds ∷ []; own = Some r; ended = false }) }))))))

-- a join from a bound method, or while the thread owns a lock, asks the target for `MustTerminate`
abbrev pub join_is_bounded : List Object → ℕ → Frame → Method → Bool
join_is_bounded heap t f method = not (is_bound_by f.measure || owns_any heap t) || must_terminate method.pre

-- Joins a thread that was started: it waits while the thread hasn't ended. The target is the one that is named.
abbrev pub joined_thread : Module → ℕ → List Object → ℕ → ℕ → Place → Frame → List Frame → ℕ × ThreadState → Res After
joined_thread m t heap r target p f below th =
    if not (th.1).ended then Stops halt.Waits else
    then_do (tested kind.NotJoinable p (has_target m heap r target)) (λ _.
    then_do (method_at m target) (λ method.
    then_do (tested kind.NoMeasure p (join_is_bounded heap t f method)) (λ _.
    stays_with (event.Joined th.0) heap f below)))

abbrev pub joined : Module → ℕ → List Object → List ThreadState → ℕ → ℕ → Place → Frame → List Frame → Res After
joined m t heap threads r target p f below = elim (thread_of r threads) as (λ _. Res After) [
  | None ↦ Stops (halt.Failed kind.NotJoinable p)
  | Some th ↦ joined_thread m t heap r target p f below th
]
