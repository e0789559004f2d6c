-- Every step of a run of a small module keeps the relation.
use Rattle.std.proofs.Common.{◌≡◌, ℕ, zero, suc, List, [], ◌∷◌, refl, sym, ap, subst, ◌∙◌}
use Rattle.std.specs.Prelude.{pos, Bool, None, true, false}
use Rattle.py_syntax.specs.declared.Value.{Value}
use Rattle.py_syntax.specs.declared.Assertion.{Assertion}
use Rattle.py_syntax.specs.declared.Method.{Method}
use Rattle.py_syntax.specs.declared.Module.{Module}
use Rattle.py_syntax.specs.declared.Item.{Item}
use Rattle.py_syntax.specs.declared.Item.TheVariants as item
use Rattle.py_syntax.specs.StmtItems.{method_items}
use Rattle.py_syntax.specs.SmallLocal.{local, local_from}
use Rattle.machine_model.specs.declared.Frame.{Frame}
use Rattle.machine_model.specs.declared.ThreadState.{ThreadState}
use Rattle.machine_model.specs.declared.State.{State}
use Rattle.machine_model.specs.declared.Halt.TheVariants as halt
use Rattle.machine_model.specs.Results.{Res, Got, Stops, then_do}
use Rattle.machine_model.specs.Duties.{Duty, measure_of, caps_of}
use Rattle.machine_model.specs.Moments.{at_atom, scene_of}
use Rattle.machine_model.specs.Frames.{After}
use Rattle.machine_model.specs.Calls.{entry_duties}
use Rattle.machine_model.specs.Items.{act}
use Rattle.machine_model.specs.Steps.{first_frame, entry_of_main, control_step, state_after, settle, step, Stepped, Same, Went, whole}
use Rattle.perm_sound.proofs.SmallItems.{AreSmall, method}
use Rattle.perm_sound.proofs.Keeps.{IsNoFault, Stands, Fine, goes, ends, Gives}
use Rattle.perm_sound.proofs.Items.{IsAlone, method_is, act_keeps}

-- a state with one thread and no object
abbrev pub one_thread : List Frame → Bool → State
one_thread frames ended = record { heap = []; threads = record { frames = frames; own = None; ended = ended } ∷ [] }

-- where a run of the method can be
pub data Standing (run : Method) : State → Type 0 where
  begins : Standing run (one_thread (first_frame 0 run ∷ []) false)
  runs : (f : Frame) → Stands f → Standing run (one_thread (f ∷ []) false)
  ended : Standing run (one_thread [] true)

-- what a step of a thread comes to
pub data Kept (run : Method) (t : ℕ) : Stepped → Type 0 where
  same : Kept run t Same
  went : (a : After) (s : State) → t ≡ 0 → Fine a → Standing run s → Kept run t (Went a s)

-- the state behind an item
behind : (run : Method) (frames : List Frame) (a : After) → Fine a → Kept run 0 (Went a (state_after (one_thread frames false) 0 a))
behind run frames a (goes f line stands) = went _ _ refl (goes f line stands) (runs f stands)
behind run frames a (ends v) = went _ _ refl (ends v) ended

settled : (run : Method) (frames : List Frame) (r : Res After) → Gives r → Kept run 0 (settle (one_thread frames false) 0 r)
settled run frames (Got a) fine = behind run frames a fine
settled run frames (Stops (halt.Failed kind_of p)) fine = absurd fine
settled run frames (Stops (halt.Wide p)) fine = absurd fine
settled run frames (Stops halt.Waits) fine = same
settled run frames (Stops halt.NoOperand) fine = same

-- the next of the frame's items
control_keeps : (m : Module) (run : Method) (t : ℕ) (threads : List ThreadState) (f : Frame) (control : List (Item Value)) → IsAlone m run → f.method ≡ 0 → AreSmall control → IsNoFault (local_from (pos 1) control f.stack f.store) → Gives (control_step whole m t threads [] f [] control)
control_keeps m run t threads f [] alone at_main small sound = tt
control_keeps m run t threads f (item.Begin ∷ control) alone at_main small sound = absurd small.0
control_keeps m run t threads f (i ∷ control) alone at_main small sound = act_keeps m run t threads (record f { control = control }) i alone at_main small.0 small.1 sound

-- the entry tests of `main`, which has no contract
entry_is : (m : Module) (run : Method) (t : ℕ) → IsAlone m run → entry_of_main whole m t [] (first_frame 0 run) ≡ Got (first_frame 0 run)
entry_is m run t alone =
    let f : Frame = first_frame 0 run in
    let duties : Method → List Assertion → Res (List Duty) = λ one all. entry_duties whole m t [] at_atom None [] (scene_of m [] [] f.store None) (record one { pre = all }) in
    let set : Res (List Duty) → Res Frame = λ r. then_do r (λ ds. Got (record f { measure = measure_of ds; caps = caps_of ds })) in
    ap (λ r. then_do r (λ (one : Method). set (duties one one.pre))) (method_is m run 0 alone refl)
    ∙ ap (λ (all : List Assertion). set (duties run all)) alone.1.no_precondition

-- the first item is done behind the entry tests
begin_keeps : (m : Module) (run : Method) (t : ℕ) (threads : List ThreadState) (control : List (Item Value)) → IsAlone m run → AreSmall control → IsNoFault (local_from (pos 1) control [] (first_frame 0 run).store) → Gives (control_step whole m t threads [] (first_frame 0 run) [] (item.Begin ∷ control))
begin_keeps m run t threads [] alone small sound = tt
begin_keeps m run t threads (i ∷ control) alone small sound =
    subst (λ r. Gives (then_do r (λ (g : Frame). act whole m t threads [] (record g { control = control }) [] i))) (sym (entry_is m run t alone))
    (act_keeps m run t threads (record (first_frame 0 run) { control = control }) i alone refl small.0 small.1 sound)

pub step_keeps : (m : Module) (run : Method) (t : ℕ) (s : State) → IsAlone m run → IsNoFault (local (pos 1) run) → Standing run s → Kept run t (step whole m s t)
step_keeps m run zero s alone sound begins = settled run (first_frame 0 run ∷ []) _ (begin_keeps m run 0 (one_thread (first_frame 0 run ∷ []) false).threads (method_items run) alone (method run alone.1) sound)
step_keeps m run zero s alone sound (runs f stands) = settled run (f ∷ []) _ (control_keeps m run 0 (one_thread (f ∷ []) false).threads f f.control alone stands.is_main stands.small stands.no_fault)
step_keeps m run zero s alone sound ended = same
step_keeps m run (suc t) s alone sound begins = same
step_keeps m run (suc t) s alone sound (runs f stands) = same
step_keeps m run (suc t) s alone sound ended = same
