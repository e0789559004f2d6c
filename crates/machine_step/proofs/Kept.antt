-- The steps of a state whose steps are built lead to such states.
use Rattle.std.proofs.Common.{◌≡◌, ℕ, zero, suc, Bool, List, [], ◌∷◌, slice_get, Option, Some, None, refl, sym, subst}
use Rattle.std.specs.Prelude.{All, IsSomeAnd, if◌then◌else◌}
use Rattle.std.proofs.lemmas.List.Elements.{All-drop, All-head, All-tail, All-set}
use Rattle.py_syntax.specs.declared.Module.{Module}
use Rattle.machine_model.specs.declared.state.Object.{Object}
use Rattle.machine_model.specs.declared.state.Frame.{Frame}
use Rattle.machine_model.specs.declared.state.ThreadState.{ThreadState}
use Rattle.machine_model.specs.declared.state.State.{State}
use Rattle.machine_model.specs.Steps.{state_after}
use Rattle.machine_step.specs.declared.change.Change.{Change}
use Rattle.machine_step.specs.declared.change.Deed.{Deed}
use Rattle.machine_step.specs.declared.change.Deed.TheVariants.{Stays, Ends}
use Rattle.machine_step.specs.declared.change.Plan.{Plan}
use Rattle.machine_step.specs.Built.{IsBuiltItem, IsBuiltFrame, AreBuiltFrames, IsBuiltThread, IsBuilt, IsRunning}
use Rattle.machine_step.specs.Changes.{begun, changed, done, frames_at, planned}
use Rattle.machine_step.proofs.Opened.{opened_drop}
use Rattle.machine_step.proofs.Commits.{runs, frames_there}

member : {X : Type 0} (P : X → Type 0) (xs : List X) (i : ℕ) (x : X) → All P xs → slice_get xs i ≡ Some x → P x
member P [] i x all there = cc
member P (y ∷ ys) zero x all there = let same : y ≡ x = cc in subst P same (All-head P y ys all)
member P (y ∷ ys) (suc i) x all there = member P ys i x (All-tail P y ys all) there

frame_kept : (m : Module) (first : Bool) (c : Change) (f : Frame) → IsBuiltFrame m f → IsBuiltFrame m (changed c (begun first f))
frame_kept m first c f built =
    let n : ℕ = if first then 2 else 1 in
    record {
      items = subst (All IsBuiltItem) (sym (opened_drop n f.control built.items)) (All-drop IsBuiltItem n f.control built.items);
      conditions = built.conditions;
    }

deed_kept : (m : Module) (first : Bool) (d : Deed) (heap : List Object) (f : Frame) → IsBuiltFrame m f → AreBuiltFrames m (done d heap (begun first f)).frames
deed_kept m first (Stays c) heap f built = frame_kept m first c f built
deed_kept m first Ends heap f built = tt

-- no thread is started, and one thread has other frames
stays_built : (m : Module) (s : State) (t : ℕ) (first : Bool) (d : Deed) (f : Frame) → IsBuilt m s → AreBuiltFrames m (done d s.heap (begun first f)).frames → IsBuilt m (state_after s t (done d s.heap (begun first f)))
stays_built m s t first (Stays c) f built kept = All-set (IsBuiltThread m) s.threads t _ kept built
stays_built m s t first Ends f built kept = All-set (IsBuiltThread m) s.threads t _ kept built

some_thread : (s : State) (t : ℕ) (o : Option ThreadState) → slice_get s.threads t ≡ o → IsSomeAnd o IsRunning → (th : ThreadState) × (slice_get s.threads t ≡ Some th)
some_thread s t None there run = absurd run
some_thread s t (Some th) there run = (th, there)

built_from : (m : Module) (s : State) (t : ℕ) (p : Plan) → IsBuilt m s → IsSomeAnd (slice_get s.threads t) IsRunning → (th : ThreadState) → slice_get s.threads t ≡ Some th
    → IsBuilt m (state_after s t (planned p s.heap (frames_at s t)))
built_from m s t p built run th there =
    let running : IsRunning th = runs s t th there run in
    let thread : AreBuiltFrames m th.frames = member (IsBuiltThread m) s.threads t th built there in
    let frame : IsBuiltFrame m running.frame = subst (AreBuiltFrames m) running.frames thread in
    let one : frames_at s t ≡ running.frame ∷ [] = frames_there s t th running.frame there running.frames in
    let kept = deed_kept m p.first p.deed s.heap running.frame frame in
    subst (λ fs. IsBuilt m (state_after s t (planned p s.heap fs))) (sym one) (stays_built m s t p.first p.deed running.frame built kept)

pub built_after : (m : Module) (s : State) (t : ℕ) (p : Plan) → IsBuilt m s → IsSomeAnd (slice_get s.threads t) IsRunning → IsBuilt m (state_after s t (planned p s.heap (frames_at s t)))
built_after m s t p built run =
    let there = some_thread s t (slice_get s.threads t) refl run in
    built_from m s t p built run there.0 there.1
