-- What the code reads contracts in, and what it tells.
use Rattle.std.specs.Prelude.{ℕ, ℤ, Bool, List, Option, Some, None, Result, Ok, Err}
use Rattle.py_base.specs.declared.Place.{Place}
use Rattle.py_syntax.specs.declared.Value.{Value}
use Rattle.py_syntax.specs.declared.Value.TheVariants.{Truth}
use Rattle.machine_model.specs.declared.Object.{Object}
use Rattle.machine_model.specs.declared.Halt.TheVariants.{Wide}
use Rattle.machine_model.specs.Results.{Res, Got, Stops}
use Rattle.machine_model.specs.Heap.{field_of, lock_of, locked_of, number_in}
use Rattle.machine_model.specs.Evaluation.{Scene}
use Rattle.contract_reading.specs.declared.scene.View.{View}

-- the level of a lock or of a thread, where the fields of threads have this name for it
abbrev pub level_named : ℕ → List Object → ℕ → Option ℤ
level_named name heap r = elim (lock_of heap r) as (λ _. Option ℤ) [
  | Some l ↦ Some l.level
  | None ↦ number_in (field_of heap r name)
]

-- the scene of the definition that a view shows
abbrev pub scene_in : View → Scene
scene_in v = record {
  now = field_of v.now.now;
  before = field_of v.before.now;
  store = v.store.now;
  answer = v.answer;
  level = level_named v.level_name v.heap.now;
  locked = locked_of v.heap.now;
}

-- what is told is what is read, or the place of a number that is too large
abbrev pub told : {A : Type 0} → Result A Place → Res A
told (Ok x) = Got x
told (Err p) = Stops (Wide p)

-- the truth value that a comparison gives, where it gives one
abbrev pub truth_in : Option Value → Option Bool
truth_in (Some (Truth b)) = Some b
truth_in v = None
