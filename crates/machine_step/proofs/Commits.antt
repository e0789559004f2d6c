-- A thread that is taken out of its place, and put back.
use Rattle.std.proofs.Common.{◌≡◌, ℕ, zero, suc, Bool, true, false, List, [], ◌∷◌, slice_get, set, Some, Result, Ok, Err, refl, ap, sym, subst, ◌∙◌}
use Rattle.std.specs.Prelude.{IsSomeAnd, OnOk, OnErr}
use Rattle.std.proofs.lemmas.List.{set-set}
use Rattle.machine_model.specs.declared.state.Frame.{Frame}
use Rattle.machine_model.specs.declared.state.ThreadState.{ThreadState}
use Rattle.machine_model.specs.declared.state.State.{State}
use Rattle.machine_model.specs.Steps.{own_of, state_after}
use Rattle.machine_step.specs.declared.change.Change.{Change}
use Rattle.machine_step.specs.declared.change.Deed.TheVariants.{Stays, Ends}
use Rattle.machine_step.specs.Built.{IsRunning}
use Rattle.machine_step.specs.Changes.{begun, changed, frames_at, frames_of, planned}

pub on_ok : {T E P Q : Type 0} (r : Result T E) → (P → Q) → OnOk r P → OnOk r Q
on_ok (Ok v) f p = f p
on_ok (Err e) f p = tt

pub on_err : {T E P Q : Type 0} (r : Result T E) → (P → Q) → OnErr r P → OnErr r Q
on_err (Ok v) f p = tt
on_err (Err e) f p = f p

set_same : {X : Type 0} (xs : List X) (i : ℕ) (x : X) → slice_get xs i ≡ Some x → set xs i x ≡ xs
set_same [] i x there = refl
set_same (y ∷ ys) zero x there = let same : x ≡ y = cc in ap (λ z. z ∷ ys) same
set_same (y ∷ ys) (suc i) x there = ap (λ zs. y ∷ zs) (set_same ys i x there)

-- what is known of a thread that is taken out of its place, and of its frame
pub record Taken (s : State) (t : ℕ) (th : ThreadState) (f : Frame) : Type 0 where
  pub thread : slice_get s.threads t ≡ Some th
  pub frame : slice_get th.frames 0 ≡ Some f
  pub running : IsSomeAnd (slice_get s.threads t) IsRunning

pub runs : (s : State) (t : ℕ) (th : ThreadState) → slice_get s.threads t ≡ Some th → IsSomeAnd (slice_get s.threads t) IsRunning → IsRunning th
runs s t th there running = subst (λ o. IsSomeAnd o IsRunning) there running

one_frame : (th : ThreadState) (f : Frame) → slice_get th.frames 0 ≡ Some f → IsRunning th → th.frames ≡ f ∷ []
one_frame th f there running =
    let only : Some running.frame ≡ Some f = ap (λ fs. slice_get fs 0) (sym running.frames) ∙ there in
    let same : running.frame ≡ f = cc in
    running.frames ∙ ap (λ g. g ∷ []) same

-- the frames once another frame stands in the place of the taken one
frames_back : (th : ThreadState) (f g idle : Frame) (first_frames last_frames : List Frame) → th.frames ≡ f ∷ []
    → first_frames ≡ set th.frames 0 idle → last_frames ≡ set first_frames 0 g → last_frames ≡ g ∷ []
frames_back th f g idle first_frames last_frames one taken back =
    back ∙ ap (λ fs. set fs 0 g) taken ∙ ap (λ fs. set (set fs 0 idle) 0 g) one

threads_back : (s : State) (t : ℕ) (th idle : ThreadState) (taken_threads last_threads : List ThreadState) (fs last_frames : List Frame) → last_frames ≡ fs
    → taken_threads ≡ set s.threads t idle → last_threads ≡ set taken_threads t (record th { frames = last_frames }) → last_threads ≡ set s.threads t (record th { frames = fs })
threads_back s t th idle taken_threads last_threads fs last_frames frames taken back =
    back ∙ ap (λ ts. set ts t (record th { frames = last_frames })) taken
    ∙ set-set s.threads t idle (record th { frames = last_frames })
    ∙ ap (λ l. set s.threads t (record th { frames = l })) frames

pub frames_there : (s : State) (t : ℕ) (th : ThreadState) (f : Frame) → slice_get s.threads t ≡ Some th → th.frames ≡ f ∷ [] → frames_at s t ≡ f ∷ []
frames_there s t th f there one = ap frames_of there ∙ one

abbrev with_threads : State → List ThreadState → State
with_threads s threads = record { heap = s.heap; threads = threads }

pub went_on : (s : State) (t : ℕ) (th idle : ThreadState) (f g none : Frame) (first : Bool) (c : Change) (taken_frames last_frames : List Frame) (taken_threads last_threads : List ThreadState)
    → Taken s t th f → taken_threads ≡ set s.threads t idle → taken_frames ≡ set th.frames 0 none → last_frames ≡ set taken_frames 0 g
    → last_threads ≡ set taken_threads t (record th { frames = last_frames }) → g ≡ changed c (begun first f)
    → with_threads s last_threads ≡ state_after s t (planned (record { first = first; deed = Stays c }) s.heap (frames_at s t))
went_on s t th idle f g none first c taken_frames last_frames taken_threads last_threads known threads frames frames_last threads_last is =
    let running = runs s t th known.thread known.running in
    let one : th.frames ≡ f ∷ [] = one_frame th f known.frame running in
    let last : last_frames ≡ g ∷ [] = frames_back th f g none taken_frames last_frames one frames frames_last in
    let after : ThreadState = record { frames = changed c (begun first f) ∷ []; own = th.own; ended = false } in
    ap (with_threads s) (threads_back s t th idle taken_threads last_threads (g ∷ []) last_frames last threads threads_last)
    ∙ ap (λ h. with_threads s (set s.threads t (record th { frames = h ∷ [] }))) is
    ∙ ap (λ e. with_threads s (set s.threads t (record { frames = changed c (begun first f) ∷ []; own = th.own; ended = e }))) running.unended
    ∙ ap (λ o. with_threads s (set s.threads t (record { frames = changed c (begun first f) ∷ []; own = own_of o; ended = false }))) (sym known.thread)
    ∙ ap (λ fs. state_after s t (planned (record { first = first; deed = Stays c }) s.heap fs)) (sym (frames_there s t th f known.thread one))

pub stayed_there : (s : State) (t : ℕ) (th idle : ThreadState) (f g none : Frame) (taken_frames last_frames : List Frame) (taken_threads last_threads : List ThreadState)
    → Taken s t th f → taken_threads ≡ set s.threads t idle → taken_frames ≡ set th.frames 0 none → last_frames ≡ set taken_frames 0 g
    → last_threads ≡ set taken_threads t (record th { frames = last_frames }) → g ≡ f
    → with_threads s last_threads ≡ s
stayed_there s t th idle f g none taken_frames last_frames taken_threads last_threads known threads frames frames_last threads_last is =
    let running = runs s t th known.thread known.running in
    let one : th.frames ≡ f ∷ [] = one_frame th f known.frame running in
    let last : last_frames ≡ g ∷ [] = frames_back th f g none taken_frames last_frames one frames frames_last in
    ap (with_threads s) (threads_back s t th idle taken_threads last_threads th.frames last_frames (last ∙ ap (λ h. h ∷ []) is ∙ sym one) threads threads_last)
    ∙ ap (with_threads s) (set_same s.threads t th known.thread)

pub has_ended : (s : State) (t : ℕ) (th idle : ThreadState) (first : Bool) (last_frames : List Frame) (taken_threads last_threads : List ThreadState)
    → slice_get s.threads t ≡ Some th → IsSomeAnd (slice_get s.threads t) IsRunning → taken_threads ≡ set s.threads t idle → last_frames ≡ []
    → last_threads ≡ set taken_threads t (record { frames = last_frames; own = th.own; ended = true })
    → with_threads s last_threads ≡ state_after s t (planned (record { first = first; deed = Ends }) s.heap (frames_at s t))
has_ended s t th idle first last_frames taken_threads last_threads there run threads none threads_last =
    let running = runs s t th there run in
    ap (with_threads s) (threads_last ∙ ap (λ ts. set ts t (record { frames = last_frames; own = th.own; ended = true })) threads ∙ set-set s.threads t idle (record { frames = last_frames; own = th.own; ended = true }))
    ∙ ap (λ l. with_threads s (set s.threads t (record { frames = l; own = th.own; ended = true }))) none
    ∙ ap (λ o. with_threads s (set s.threads t (record { frames = []; own = own_of o; ended = true }))) (sym there)
    ∙ ap (λ fs. state_after s t (planned (record { first = first; deed = Ends }) s.heap fs)) (sym (frames_there s t th running.frame there running.frames))
