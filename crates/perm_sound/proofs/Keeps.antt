-- The relation between a run of a small module and the local run of its `main` in the unit 1, which every item keeps.
use Rattle.std.proofs.Common.{◌≡◌, ℕ, List, [], ◌∷◌}
use Rattle.std.specs.Bool.{⊤}
use Rattle.std.specs.Prelude.{pos, Option, Some, None, true, false}
use Rattle.py_syntax.specs.declared.Value.{Value}
use Rattle.py_syntax.specs.SmallLocal.{Outcome, Ended, Stopped, Fault, local_from}
use Rattle.py_syntax.specs.WaysOut.{Normal}
use Rattle.machine_model.specs.declared.Frame.{Frame}
use Rattle.machine_model.specs.declared.EventForm.TheVariants as event
use Rattle.machine_model.specs.declared.Halt.TheVariants as halt
use Rattle.machine_model.specs.Results.{Res, Got, Stops}
use Rattle.machine_model.specs.Frames.{After}
use Rattle.perm_sound.proofs.SmallItems.{AreSmall}

abbrev pub IsNoFault : Outcome → Type 0
IsNoFault Ended = ⊤
IsNoFault Stopped = ⊤
IsNoFault (Fault p kind_of) = ⊥

-- a frame of `main` whose local run doesn't end in a fault
pub record Stands (f : Frame) : Type 0 where
  pub is_main : f.method ≡ 0
  pub small : AreSmall f.control
  pub no_fault : IsNoFault (local_from (pos 1) f.control f.stack f.store)

-- what an item leaves: the frame goes on, or the thread has ended with it
pub data Fine : After → Type 0 where
  goes : (f : Frame) (line : Option (List ℕ)) → Stands f → Fine (record { heap = []; frames = f ∷ []; ended = false; started = None; event = None; line = line; call = None })
  ends : (v : Value) → Fine (record { heap = []; frames = []; ended = true; started = None; event = Some event.Ended; line = None; call = Some (0, Normal v) })

-- an item's result is fine, or the item wasn't done; no test has failed, and no number is too large
abbrev pub Gives : Res After → Type 0
Gives (Got a) = Fine a
Gives (Stops (halt.Failed kind_of p)) = ⊥
Gives (Stops (halt.Wide p)) = ⊥
Gives (Stops halt.Waits) = ⊤
Gives (Stops halt.NoOperand) = ⊤
