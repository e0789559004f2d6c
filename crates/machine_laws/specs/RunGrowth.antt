-- A run that goes on only adds to its heap, its threads and what it has shown.
use Rattle.std.specs.Prelude.{◌≡◌, ℕ, zero, suc, Bool, true, false, List, [], ◌∷◌, ◌++◌, Option, Some, None, slice_get, slice_set, refl, if◌then◌else◌, ◌≤◌, length}
use Rattle.std.proofs.Common.{sym, ap, ◌∙◌, subst, append_assoc, arith}
use Rattle.py_syntax.specs.declared.Value.{Value}
use Rattle.py_syntax.specs.declared.Module.{Module}
use Rattle.py_syntax.specs.declared.Item.{Item}
use Rattle.py_syntax.specs.declared.Item.TheVariants as item
use Rattle.machine_model.specs.declared.state.Object.{Object}
use Rattle.machine_model.specs.declared.state.Frame.{Frame}
use Rattle.machine_model.specs.declared.state.ThreadState.{ThreadState}
use Rattle.machine_model.specs.declared.state.State.{State}
use Rattle.machine_model.specs.declared.halt.Halt.TheVariants as halt
use Rattle.machine_model.specs.Results.{Res, Got, Stops, then_do, of_option, Width}
use Rattle.machine_model.specs.Frames.{After}
use Rattle.machine_model.specs.Steps.{entry_of_main, control_step, frames_step, thread_step, state_step, with_started, own_of, state_after, Stepped, Same, Went, Fails, TooLarge, settle, step, whole, Run, one_of, event_by, run_after, continued, first_run, after}
use Rattle.machine_laws.specs.Growth.{GoesOn, HeapGrows, ThreadsGrow, StateGrows, Extends}
use Rattle.machine_laws.specs.GrowthParts.{Gives, stops, past, same_heap, heap_grows_on, Grows}
use Rattle.machine_laws.specs.ItemGrowth.{act_grows}

-- threads
same_threads : (threads : List ThreadState) → ThreadsGrow threads threads
same_threads [] = tt
same_threads (th ∷ ths) = (refl, (λ e. e), same_threads ths)

threads_grow_on : (a b c : List ThreadState) → ThreadsGrow a b → ThreadsGrow b c → ThreadsGrow a c
threads_grow_on [] b c h k = tt
threads_grow_on (x ∷ xs) [] c h k = absurd h
threads_grow_on (x ∷ xs) (y ∷ ys) [] h k = absurd k
threads_grow_on (x ∷ xs) (y ∷ ys) (z ∷ zs) h k = (k.0 ∙ h.0, (λ e. k.1 (h.1 e)), threads_grow_on xs ys zs h.2 k.2)

with_more : (threads more : List ThreadState) → ThreadsGrow threads (threads ++ more)
with_more [] more = tt
with_more (th ∷ ths) more = (refl, (λ e. e), with_more ths more)

with_start : (start : Option ThreadState) (threads : List ThreadState) → ThreadsGrow threads (with_started start threads)
with_start None threads = same_threads threads
with_start (Some th) threads = with_more threads (th ∷ [])

-- a thread that had not ended, changed, that keeps its object
thread_changed : (threads : List ThreadState) (t : ℕ) (th u : ThreadState) → slice_get threads t ≡ Some th → th.ended ≡ false → u.own ≡ th.own → ThreadsGrow threads (slice_set threads t u)
thread_changed [] t th u is runs own = cc
thread_changed (x ∷ xs) zero th u is runs own =
    let same : x ≡ th = cc in
    let running : x.ended ≡ false = ap (λ (y : ThreadState). y.ended) same ∙ runs in
    (own ∙ ap (λ (y : ThreadState). y.own) (sym same), (λ ended. let never : true ≡ false = sym ended ∙ running in cc), same_threads xs)
thread_changed (x ∷ xs) (suc t) th u is runs own = (refl, (λ e. e), thread_changed xs t th u is runs own)

-- steps
control_grows : (fits : Width) (m : Module) (t : ℕ) (threads : List ThreadState) (heap : List Object) (f : Frame) (below : List Frame) (control : List (Item Value)) → Grows heap (control_step fits m t threads heap f below control)
control_grows fits m t threads heap f below [] = stops _ _
control_grows fits m t threads heap f below (item.Begin ∷ []) = stops _ _
control_grows fits m t threads heap f below (item.Begin ∷ i ∷ control) = past _ (entry_of_main fits m t heap f) _ (λ g. act_grows fits m t threads heap (record g { control = control }) below i)
control_grows fits m t threads heap f below (i ∷ control) = act_grows fits m t threads heap (record f { control = control }) below i

frames_grow : (fits : Width) (m : Module) (t : ℕ) (threads : List ThreadState) (heap : List Object) (frames : List Frame) → Grows heap (frames_step fits m t threads heap frames)
frames_grow fits m t threads heap [] = stops _ _
frames_grow fits m t threads heap (f ∷ below) = control_grows fits m t threads heap f below f.control

-- what is left of a step of a thread that had not ended
abbrev LeftBy : State → ℕ → After → Type 0
LeftBy s t a = HeapGrows s.heap a.heap × ((th : ThreadState) × (slice_get s.threads t ≡ Some th) × (th.ended ≡ false))

thread_grows : (fits : Width) (m : Module) (s : State) (t : ℕ) (th : ThreadState) → slice_get s.threads t ≡ Some th → Gives (LeftBy s t) (thread_step fits m t s th)
thread_grows fits m s t th is = of_end th.ended refl
  where
    of_end : (b : Bool) → th.ended ≡ b → Gives (LeftBy s t) (if b then Stops halt.Waits else frames_step fits m t s.threads s.heap th.frames)
    of_end true ended = stops (LeftBy s t) halt.Waits
    of_end false runs = record { at = λ a left. ((frames_grow fits m t s.threads s.heap th.frames).at a left, (th, is, runs)) }

state_grows : (fits : Width) (m : Module) (s : State) (t : ℕ) → Gives (LeftBy s t) (state_step fits m s t)
state_grows fits m s t = of_found (slice_get s.threads t) refl
  where
    of_found : (found : Option ThreadState) → slice_get s.threads t ≡ found → Gives (LeftBy s t) (then_do (of_option halt.Waits found) (thread_step fits m t s))
    of_found None is = stops (LeftBy s t) halt.Waits
    of_found (Some th) is = thread_grows fits m s t th is

after_grows : (s : State) (t : ℕ) (a : After) → LeftBy s t a → StateGrows s (state_after s t a)
after_grows s t a left =
    let u : ThreadState = record { frames = a.frames; own = own_of (slice_get s.threads t); ended = a.ended } in
    record {
      heap = left.0;
      threads = threads_grow_on s.threads (slice_set s.threads t u) (with_started a.started (slice_set s.threads t u))
          (thread_changed s.threads t ((left.1).0) u ((left.1).1) ((left.1).2) (ap own_of (left.1).1))
          (with_start a.started (slice_set s.threads t u));
    }

went_grows : (s : State) (t : ℕ) (r : Res After) (a : After) (u : State) → Gives (LeftBy s t) r → settle s t r ≡ Went a u → StateGrows s u
went_grows s t (Got b) a u h is = let same : state_after s t b ≡ u = cc in subst (StateGrows s) same (after_grows s t b (h.at b refl))
went_grows s t (Stops halt.Waits) a u h is = cc
went_grows s t (Stops halt.NoOperand) a u h is = cc
went_grows s t (Stops (halt.Failed k p)) a u h is = cc
went_grows s t (Stops (halt.Wide p)) a u h is = cc

-- a step within any width
pub step_grows : (fits : Width) (m : Module) (s : State) (t : ℕ) (a : After) (u : State) → step fits m s t ≡ Went a u → StateGrows s u
step_grows fits m s t a u is = went_grows s t (state_step fits m s t) a u (state_grows fits m s t) is

-- runs
nothing_more : {A : Type 0} (xs : List A) → xs ≡ xs ++ []
nothing_more [] = refl
nothing_more (x ∷ xs) = ap (λ ys. x ∷ ys) (nothing_more xs)

abbrev same_list : {A : Type 0} (xs : List A) → GoesOn xs xs
same_list xs = ([], nothing_more xs)

abbrev on_and_on : {A : Type 0} (xs ys zs : List A) → GoesOn xs ys → GoesOn ys zs → GoesOn xs zs
on_and_on xs ys zs h k = (h.0 ++ k.0, k.1 ∙ ap (λ l. l ++ k.0) h.1 ∙ append_assoc xs h.0 k.0)

same_state : (s : State) → StateGrows s s
same_state s = record { heap = same_heap s.heap; threads = same_threads s.threads }

same_run : (r : Run) → Extends r r
same_run r = record { state = same_state r.state; lines = same_list r.lines; events = same_list r.events; faults = same_list r.faults; calls = same_list r.calls }

extends_on : (a b c : Run) → Extends a b → Extends b c → Extends a c
extends_on a b c h k = record {
  state = record {
    heap = heap_grows_on (a.state).heap (b.state).heap (c.state).heap (h.state).heap (k.state).heap;
    threads = threads_grow_on (a.state).threads (b.state).threads (c.state).threads (h.state).threads (k.state).threads;
  };
  lines = on_and_on a.lines b.lines c.lines h.lines k.lines;
  events = on_and_on a.events b.events c.events h.events k.events;
  faults = on_and_on a.faults b.faults c.faults h.faults k.faults;
  calls = on_and_on a.calls b.calls c.calls h.calls k.calls;
}

extends_by : (r : Run) (t : ℕ) (stepped : Stepped) → ((a : After) (u : State) → stepped ≡ Went a u → StateGrows r.state u) → Extends r (run_after r t stepped)
extends_by r t Same h = same_run r
extends_by r t (Went a u) h = record { state = h a u refl; lines = (one_of a.line, refl); events = (event_by t a.event, refl); faults = same_list r.faults; calls = (one_of a.call, refl) }
extends_by r t (Fails k p) h = record { state = same_state r.state; lines = same_list r.lines; events = same_list r.events; faults = ((k, p, t) ∷ [], refl); calls = same_list r.calls }
extends_by r t (TooLarge p) h = same_run r

continued_extends : (m : Module) (r : Run) (ts : List ℕ) → Extends r (continued m r ts)
continued_extends m r [] = same_run r
continued_extends m r (t ∷ ts) =
    let next : Run = run_after r t (step whole m r.state t) in
    extends_on r next (continued m next ts) (extends_by r t (step whole m r.state t) (step_grows whole m r.state t)) (continued_extends m next ts)

continued_on : (m : Module) (r : Run) (xs ys : List ℕ) → continued m (continued m r xs) ys ≡ continued m r (xs ++ ys)
continued_on m r [] ys = refl
continued_on m r (t ∷ xs) ys = continued_on m (run_after r t (step whole m r.state t)) xs ys

-- a run with more steps extends the run so far
pub after_extends : (m : Module) (list more : List ℕ) → Extends (after m list) (after m (list ++ more))
after_extends m list more = subst (Extends (after m list)) (continued_on m (first_run m) list more) (continued_extends m (after m list) more)

-- what a thread is once the threads have grown
pub threads_length : (a b : List ThreadState) → ThreadsGrow a b → length a ≤ length b
threads_length [] b h = omega arith
threads_length (x ∷ xs) [] h = absurd h
threads_length (x ∷ xs) (y ∷ ys) h = omega (arith, threads_length xs ys h.2)

pub thread_stays : (a b : List ThreadState) (t : ℕ) (th : ThreadState) → ThreadsGrow a b → slice_get a t ≡ Some th → (u : ThreadState) × (slice_get b t ≡ Some u) × (u.own ≡ th.own) × (th.ended ≡ true → u.ended ≡ true)
thread_stays [] b t th h is = cc
thread_stays (x ∷ xs) [] t th h is = absurd h
thread_stays (x ∷ xs) (y ∷ ys) zero th h is =
    let same : x ≡ th = cc in
    (y, refl, h.0 ∙ ap (λ (z : ThreadState). z.own) same, (λ e. h.1 (ap (λ (z : ThreadState). z.ended) same ∙ e)))
thread_stays (x ∷ xs) (y ∷ ys) (suc t) th h is = thread_stays xs ys t th h.2 is
