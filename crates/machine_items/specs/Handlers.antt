-- The handlers that an exception still tries.
use Rattle.std.specs.Prelude.{ℕ, false, List, [], ◌∷◌}
use Rattle.py_base.specs.declared.Place.{Place}
use Rattle.py_syntax.specs.declared.Stmt.{Stmt}
use Rattle.py_syntax.specs.declared.Way.TheVariants.{Raise}
use Rattle.py_syntax.specs.declared.Item.TheVariants as item
use Rattle.machine_model.specs.declared.Object.{Object}
use Rattle.machine_model.specs.declared.Frame.{Frame}
use Rattle.machine_model.specs.declared.Halt.TheVariants.{NoOperand}
use Rattle.machine_model.specs.Results.{Res, Stops}
use Rattle.machine_model.specs.Frames.{After, goes_on}
use Rattle.machine_model.specs.Calls.{go_out}
use Rattle.machine_model.specs.Items.{with_control}

-- the handlers behind one that isn't for the exception: without any it goes further out
abbrev pub tried : ℕ → Place → List (ℕ × List Stmt) → List Object → Frame → List Frame → Res After
tried c p [] heap f below = go_out false (Raise c p) (λ v. Stops NoOperand) heap f below
tried c p (h ∷ hs) heap f below = goes_on heap (with_control (item.Handle c p (h ∷ hs) ∷ f.control) f ∷ below)
