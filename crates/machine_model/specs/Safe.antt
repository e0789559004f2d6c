-- What holds of a module that is safe, after the steps of a list of thread numbers.
use Rattle.std.specs.Prelude.{◌≡◌, ℕ, Bool, true, false, List, [], ◌∷◌, All, length, Some, None, IsSome, slice_get, IsTrue}
use Rattle.py_base.specs.declared.Place.{Place}
use Rattle.py_base.specs.declared.Kind.{Kind}
use Rattle.py_base.specs.declared.Kind.TheVariants as kind
use Rattle.py_syntax.specs.declared.Value.{Value}
use Rattle.py_syntax.specs.declared.Value.TheVariants.{Ref}
use Rattle.py_syntax.specs.declared.Method.{Method}
use Rattle.py_syntax.specs.declared.Module.{Module}
use Rattle.py_syntax.specs.WaysOut.{Ending, way_of}
use Rattle.machine_model.specs.declared.state.Object.{Object}
use Rattle.machine_model.specs.declared.state.LockState.{LockState}
use Rattle.machine_model.specs.Results.{Got}
use Rattle.machine_model.specs.Reading.{opens_within, room}
use Rattle.machine_model.specs.Moments.{scene_of}
use Rattle.machine_model.specs.Sharing.{invariant_of}
use Rattle.machine_model.specs.Steps.{after, whole}
use Rattle.machine_model.specs.Stuck.{is_stuck}
use Rattle.machine_model.specs.Race.{Race}

-- the kinds of the tests of measures and duties
abbrev pub is_of_measures : Kind → Bool
is_of_measures kind.NotHeld = true
is_of_measures kind.Measure = true
is_of_measures kind.NoMeasure = true
is_of_measures kind.Leak = true
is_of_measures k = false

-- a call ended normally, or by a class that its method declares
abbrev pub EndsAsDeclared : Module → ℕ × Ending Value → Type 0
EndsAsDeclared m call = (method : Method) → slice_get m.methods call.0 ≡ Some method → IsSome (way_of m method call.1)

-- the invariant of a lock without an owner reads true
abbrev pub KeepsInvariant : Module → List Object → ℕ → Type 0
KeepsInvariant m heap r =
    (o : Object) (l : LockState) (pred : ℕ) → slice_get heap r ≡ Some o → o.lock ≡ Some l → l.owner ≡ None → invariant_of m o.class ≡ Got pred →
    opens_within whole m (scene_of m heap heap [] None) (room m (length heap)) [] pred (Ref r ∷ []) ≡ Got true

-- The module is safe under the list.
pub record Safe (m : Module) (list : List ℕ) : Type 0 where
  pub no_test_fails : All (λ (f : Kind × Place × ℕ). IsTrue (is_of_measures f.0)) (after m list).faults
  pub no_race : ¬ Race (after m list).events
  pub ends_as_declared : All (EndsAsDeclared m) (after m list).calls
  pub keeps_invariants : (r : ℕ) → KeepsInvariant m ((after m list).state).heap r
  pub not_stuck : is_stuck (after m list).state ≡ false
  pub no_measure_fails : All (λ (f : Kind × Place × ℕ). is_of_measures f.0 ≡ false) (after m list).faults
