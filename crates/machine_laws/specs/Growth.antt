-- How the states of a run go on: the heap and the threads only grow, and so does what the run has shown.
use Rattle.std.specs.Prelude.{◌≡◌, true, List, [], ◌∷◌, ◌++◌, Option, Some, None}
use Rattle.machine_model.specs.declared.state.Object.{Object}
use Rattle.machine_model.specs.declared.state.LockState.{LockState}
use Rattle.machine_model.specs.declared.state.ThreadState.{ThreadState}
use Rattle.machine_model.specs.declared.state.State.{State}
use Rattle.machine_model.specs.Steps.{Run}

-- a list that goes on behind this one
abbrev pub GoesOn : {A : Type 0} → List A → List A → Type 0
GoesOn {A} front whole = (more : List A) × (whole ≡ front ++ more)

-- a lock stays one, over the same object and at the same level
abbrev pub StaysLock : Option LockState → Option LockState → Type 0
StaysLock None None = Unit {0}
StaysLock (Some l) (Some k) = (k.locked ≡ l.locked) × (k.level ≡ l.level)
StaysLock None (Some k) = ⊥
StaysLock (Some l) None = ⊥

-- Each object is still there, with its class and its lock; others may have come behind them.
abbrev pub HeapGrows : List Object → List Object → Type 0
HeapGrows [] later = Unit {0}
HeapGrows (o ∷ os) [] = ⊥
HeapGrows (o ∷ os) (p ∷ ps) = (p.class ≡ o.class) × StaysLock o.lock p.lock × HeapGrows os ps

-- Each thread is still there, with its object, and has ended if it had; others may have come behind them.
abbrev pub ThreadsGrow : List ThreadState → List ThreadState → Type 0
ThreadsGrow [] later = Unit {0}
ThreadsGrow (th ∷ ths) [] = ⊥
ThreadsGrow (th ∷ ths) (u ∷ us) = (u.own ≡ th.own) × (th.ended ≡ true → u.ended ≡ true) × ThreadsGrow ths us

-- A state that has come of another.
pub record StateGrows (s u : State) : Type 0 where
  pub heap : HeapGrows s.heap u.heap
  pub threads : ThreadsGrow s.threads u.threads

-- A run that goes on from another.
pub record Extends (r q : Run) : Type 0 where
  pub state : StateGrows r.state q.state
  pub lines : GoesOn r.lines q.lines
  pub events : GoesOn r.events q.events
  pub faults : GoesOn r.faults q.faults
  pub calls : GoesOn r.calls q.calls
