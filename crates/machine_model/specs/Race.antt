-- The order of events and races, as is usual for happens-before (Lamport, "Time, Clocks, and the Ordering of Events in a Distributed System").
use Rattle.std.specs.Prelude.{◌≡◌, ◌≢◌, ◌⊎◌, ◌<◌, ℕ, List, Some, slice_get}
use Rattle.machine_model.specs.declared.event.Event.{Event}
use Rattle.machine_model.specs.declared.event.EventForm.{EventForm}
use Rattle.machine_model.specs.declared.event.EventForm.TheVariants.{Read, Wrote, Acquired, Released, Started, Ended, Joined}

-- An edge from an event to a later one: both of one thread; a start and what the started thread does; the end of a thread and a join of it; a release of a lock and a later acquire of it.
pub data Edge (a b : Event) : Type 0 where
  same_thread : a.thread ≡ b.thread → Edge a b
  starts : a.form ≡ Started b.thread → Edge a b
  joins : a.form ≡ Ended → b.form ≡ Joined a.thread → Edge a b
  hands_over : (l : ℕ) → a.form ≡ Released l → b.form ≡ Acquired l → Edge a b

-- the event at place i comes before the one at place j, by a chain of edges
pub data Before (events : List Event) : ℕ → ℕ → Type 0 where
  edge : (i j : ℕ) (a b : Event) → i < j → slice_get events i ≡ Some a → slice_get events j ≡ Some b → Edge a b → Before events i j
  chain : (i j k : ℕ) → Before events i j → Before events j k → Before events i k

-- an access of a field of an object, which writes it or not
abbrev pub Accesses : ℕ → ℕ → EventForm → Type 0
Accesses r f form = (form ≡ Read r f) ⊎ (form ≡ Wrote r f)

-- Two accesses of one field by different threads, one of them a write, and the earlier one isn't before the later one.
pub record Race (events : List Event) : Type 0 where
  pub i : ℕ
  pub j : ℕ
  pub first : Event
  pub second : Event
  pub object : ℕ
  pub field : ℕ
  pub in_order : i < j
  pub at_first : slice_get events i ≡ Some first
  pub at_second : slice_get events j ≡ Some second
  pub by_others : first.thread ≢ second.thread
  pub first_accesses : Accesses object field first.form
  pub second_accesses : Accesses object field second.form
  pub writes : (first.form ≡ Wrote object field) ⊎ (second.form ≡ Wrote object field)
  pub unordered : ¬ Before events i j
