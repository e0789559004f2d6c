-- The next item of a thread with one frame.
use Rattle.std.proofs.Common.{◌≡◌, ℕ, true, false, List, [], ◌∷◌, drop, slice_get, Option, Some, None, Result, Err, ap, sym, subst, ◌∙◌}
use Rattle.std.specs.Prelude.{IfSome, IsSomeAnd, is_none, if◌then◌else◌}
use Rattle.py_syntax.specs.declared.Value.{Value}
use Rattle.py_syntax.specs.declared.Method.{Method}
use Rattle.py_syntax.specs.declared.Module.{Module}
use Rattle.py_syntax.specs.declared.Item.{Item}
use Rattle.py_syntax.specs.declared.Item.TheVariants as item
use Rattle.machine_model.specs.declared.state.Object.{Object}
use Rattle.machine_model.specs.declared.state.Frame.{Frame}
use Rattle.machine_model.specs.declared.state.ThreadState.{ThreadState}
use Rattle.machine_model.specs.declared.state.State.{State}
use Rattle.machine_model.specs.declared.halt.Halt.TheVariants.{Waits}
use Rattle.machine_model.specs.Results.{Res, Got, Stops, Width, then_do, of_option}
use Rattle.machine_model.specs.Frames.{operand}
use Rattle.machine_model.specs.Evaluation.{Scene}
use Rattle.machine_model.specs.Duties.{measure_of, caps_of, duties_of, lower_than}
use Rattle.machine_model.specs.Moments.{at_atom, scene_of, atoms_hold}
use Rattle.machine_model.specs.Calls.{entry_duties}
use Rattle.py_base.specs.declared.Kind.TheVariants.{PreValue}
use Rattle.machine_model.specs.Steps.{entry_of_main, control_step, frames_step, thread_step, state_step}
use Rattle.machine_model.specs.Items.{act}
use Rattle.machine_values.specs.declared.Stop.{Stop}
use Rattle.machine_step.specs.declared.change.Deed.{Deed}
use Rattle.machine_step.specs.declared.change.Plan.{Plan}
use Rattle.machine_values.specs.Agreement.{Agrees}
use Rattle.machine_step.specs.Built.{HasNoConditions, AreBuiltFrames, IsBuiltFrame, IsBuiltThread, IsRunning}
use Rattle.machine_step.specs.Changes.{begun, done, frames_at, frames_of, is_begin, planned}

plain_from : (fits : Width) (m : Module) (t : ℕ) (threads : List ThreadState) (heap : List Object) (f : Frame) (control : List (Item Value)) (i : Item Value)
    → slice_get control 0 ≡ Some i → is_begin i ≡ false → control_step fits m t threads heap f [] control ≡ act fits m t threads heap (record f { control = drop 1 control }) [] i
plain_from fits m t threads heap f [] i there other = cc
plain_from fits m t threads heap f (item.Begin ∷ rest) i there other = let same : item.Begin ≡ i = cc in let wrong : true ≡ false = ap is_begin same ∙ other in cc
plain_from fits m t threads heap f (j ∷ rest) i there other = let same : j ≡ i = cc in ap (λ x. act fits m t threads heap (record f { control = rest }) [] x) same

pub plain_item : (fits : Width) (m : Module) (t : ℕ) (threads : List ThreadState) (heap : List Object) (f : Frame) (i : Item Value)
    → slice_get f.control 0 ≡ Some i → is_begin i ≡ false → control_step fits m t threads heap f [] f.control ≡ act fits m t threads heap (begun false f) [] i
plain_item fits m t threads heap f i there other = plain_from fits m t threads heap f f.control i there other

-- a frame as its entry tests leave it, where there are none
abbrev entered_frame : Frame → Frame
entered_frame f = record f { measure = None; caps = [] }

entry_with : (fits : Width) (m : Module) (t : ℕ) (heap : List Object) (f : Frame) (method : Method) → method.pre ≡ []
    → then_do (entry_duties fits m t heap at_atom None [] (scene_of m heap heap f.store None) method) (λ ds. Got (record f { measure = measure_of ds; caps = caps_of ds })) ≡ Got (entered_frame f)
entry_with fits m t heap f method none =
    let s : Scene = scene_of m heap heap f.store None in
    ap (λ pre. then_do (then_do (atoms_hold fits m t heap s PreValue at_atom pre) (λ _. duties_of fits pre (lower_than at_atom None []) s)) (λ ds. Got (record f { measure = measure_of ds; caps = caps_of ds }))) none

entry_at : (fits : Width) (m : Module) (t : ℕ) (heap : List Object) (f : Frame) (o : Option Method) → IfSome o HasNoConditions → is_none o ≡ false
    → then_do (operand o) (λ method. then_do (entry_duties fits m t heap at_atom None [] (scene_of m heap heap f.store None) method) (λ ds. Got (record f { measure = measure_of ds; caps = caps_of ds }))) ≡ Got (entered_frame f)
entry_at fits m t heap f None none there = cc
entry_at fits m t heap f (Some method) none there = entry_with fits m t heap f method none.pre

first_from : (fits : Width) (m : Module) (t : ℕ) (threads : List ThreadState) (heap : List Object) (f : Frame) (control : List (Item Value)) (i : Item Value)
    → IfSome (slice_get control 0) (λ j. is_begin j ≡ true) → slice_get control 1 ≡ Some i → entry_of_main fits m t heap f ≡ Got (entered_frame f)
    → control_step fits m t threads heap f [] control ≡ act fits m t threads heap (record (entered_frame f) { control = drop 2 control }) [] i
first_from fits m t threads heap f [] i begins there entry = cc
first_from fits m t threads heap f (item.Begin ∷ []) i begins there entry = cc
first_from fits m t threads heap f (item.Begin ∷ j ∷ rest) i begins there entry =
    let same : j ≡ i = cc in
    ap (λ r. then_do r (λ g. act fits m t threads heap (record g { control = rest }) [] j)) entry
    ∙ ap (λ x. act fits m t threads heap (record (entered_frame f) { control = rest }) [] x) same
first_from fits m t threads heap f (k ∷ rest) i begins there entry = cc

pub first_item : (fits : Width) (m : Module) (t : ℕ) (threads : List ThreadState) (heap : List Object) (f : Frame) (i : Item Value)
    → IfSome (slice_get f.control 0) (λ j. is_begin j ≡ true) → slice_get f.control 1 ≡ Some i
    → IfSome (slice_get m.methods f.method) HasNoConditions → is_none (slice_get m.methods f.method) ≡ false
    → control_step fits m t threads heap f [] f.control ≡ act fits m t threads heap (begun true f) [] i
first_item fits m t threads heap f i begins there none method =
    first_from fits m t threads heap f f.control i begins there (entry_at fits m t heap f (slice_get m.methods f.method) none method)

-- a fault agrees in every view
pub fault_agrees : {A T U : Type 0} (r s : Res A) (stop : Stop) (seen : T → A) (other : U → A) → s ≡ r → Agrees r (Err stop) seen → Agrees s (Err stop) other
fault_agrees r s (Stop.Halt h) seen other same agrees = same ∙ agrees
fault_agrees r s Stop.OutOfMemory seen other same agrees = tt

only_frame : (m : Module) (frames : List Frame) (f : Frame) → AreBuiltFrames m frames → slice_get frames 0 ≡ Some f → frames ≡ f ∷ []
only_frame m [] f built there = cc
only_frame m (g ∷ []) f built there = let same : g ≡ f = cc in ap (λ h. h ∷ []) same
only_frame m (g ∷ h ∷ below) f built there = absurd built

pub running_frame : (m : Module) (th : ThreadState) (f : Frame) → IsBuiltThread m th → slice_get th.frames 0 ≡ Some f → th.frames ≡ f ∷ []
running_frame m th f built there = only_frame m th.frames f built there

pub built_frame : (m : Module) (th : ThreadState) (f : Frame) → IsBuiltThread m th → slice_get th.frames 0 ≡ Some f → IsBuiltFrame m f
built_frame m th f built there = subst (AreBuiltFrames m) (running_frame m th f built there) built

pub thread_agrees : (fits : Width) (m : Module) (t : ℕ) (s : State) (heap : List Object) (th : ThreadState) (f : Frame) (r : Result Plan Stop)
    → s.heap ≡ heap → th.ended ≡ false → th.frames ≡ f ∷ []
    → Agrees (control_step fits m t s.threads heap f [] f.control) r (λ p. done p.deed heap (begun p.first f))
    → Agrees (thread_step fits m t s th) r (λ p. planned p heap th.frames)
thread_agrees fits m t s heap th f r same unended frames agrees =
    let there : Agrees (frames_step fits m t s.threads heap th.frames) r (λ p. planned p heap th.frames) = subst (λ fs. Agrees (frames_step fits m t s.threads heap fs) r (λ p. planned p heap fs)) (sym frames) agrees in
    let here : Agrees (frames_step fits m t s.threads s.heap th.frames) r (λ p. planned p heap th.frames) = subst (λ h. Agrees (frames_step fits m t s.threads h th.frames) r (λ p. planned p heap th.frames)) (sym same) there in
    subst (λ b. Agrees (if b then Stops Waits else frames_step fits m t s.threads s.heap th.frames) r (λ p. planned p heap th.frames)) (sym unended) here

pub state_agrees : (fits : Width) (m : Module) (t : ℕ) (s : State) (th : ThreadState) (r : Result Plan Stop) → slice_get s.threads t ≡ Some th
    → Agrees (thread_step fits m t s th) r (λ p. planned p s.heap th.frames) → Agrees (state_step fits m s t) r (λ p. planned p s.heap (frames_at s t))
state_agrees fits m t s th r there agrees =
    subst (λ o. Agrees (then_do (of_option Waits o) (thread_step fits m t s)) r (λ p. planned p s.heap (frames_of o))) (sym there) agrees

pub running_at : (s : State) (t : ℕ) (th : ThreadState) → slice_get s.threads t ≡ Some th → IsRunning th → IsSomeAnd (slice_get s.threads t) IsRunning
running_at s t th there running = subst (λ o. IsSomeAnd o IsRunning) (sym there) running

-- an item that is read is the item that is done
pub act_agrees : (fits : Width) (m : Module) (t : ℕ) (threads : List ThreadState) (heap : List Object) (f : Frame) (i j : Item Value) (r : Result Deed Stop) → i ≡ j
    → Agrees (act fits m t threads heap f [] j) r (λ d. done d heap f) → Agrees (act fits m t threads heap f [] i) r (λ d. done d heap f)
act_agrees fits m t threads heap f i j r is agrees = subst (λ k. Agrees (act fits m t threads heap f [] k) r (λ d. done d heap f)) (sym is) agrees
