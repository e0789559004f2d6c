-- The tests of contracts at the moments of a run: which kind of fault an atom that doesn't hold is there, and at which place it stands.
use Rattle.std.specs.Prelude.{ℕ, suc, ℤ, Bool, true, false, not, ◌&&◌, ◌||◌, List, [], ◌∷◌, length, Option, Some, None}
use Rattle.std.specs.List.{list_any}
use Rattle.std.specs.Option.{option_map_or}
use Rattle.py_base.specs.declared.Place.{Place}
use Rattle.py_base.specs.declared.Kind.{Kind}
use Rattle.py_base.specs.declared.Kind.TheVariants as kind
use Rattle.py_syntax.specs.declared.Value.{Value}
use Rattle.py_syntax.specs.declared.Value.TheVariants.{Ref}
use Rattle.py_syntax.specs.declared.Assertion.{Assertion}
use Rattle.py_syntax.specs.declared.Module.{Module}
use Rattle.machine_model.specs.declared.state.Object.{Object}
use Rattle.machine_model.specs.declared.halt.Halt.TheVariants as halt
use Rattle.machine_model.specs.Results.{Res, Got, Stops, then_do, tested, Width}
use Rattle.machine_model.specs.Heap.{field_of, level_of, locked_of, owns}
use Rattle.machine_model.specs.Evaluation.{Scene}
use Rattle.machine_model.specs.Reading.{Miss, Untrue, Unheld, read_assertions, opens_within, room}
use Rattle.machine_model.specs.Duties.{Duty, names_lock}

-- a contract is read over the heap, the heap at the entry, the locals and the result
abbrev pub scene_of : Module → List Object → List Object → List (Option Value) → Option Value → Scene
scene_of m heap before store answer = record { now = field_of heap; before = field_of before; store = store; answer = answer; level = level_of m heap; locked = locked_of heap }

-- whether a value is a lock that the thread holds
abbrev pub owns_value : List Object → ℕ → Option Value → Bool
owns_value heap t (Some (Ref r)) = owns heap t r
owns_value heap t v = false

-- where a fault of an atom stands: at the atom, or at the call
abbrev pub Placing : Type 0
Placing = Place → Place

abbrev pub at_atom : Placing
at_atom p = p

abbrev pub at_call : Place → Placing
at_call q p = q

-- an expression that is false is a fault of the moment's kind, and a duty that isn't held is kind 17
abbrev pub settled : Kind → Placing → Option Miss → Res (Unit {0})
settled kind_of at None = Got tt
settled kind_of at (Some (Untrue p)) = Stops (halt.Failed kind_of (at p))
settled kind_of at (Some (Unheld p)) = Stops (halt.Failed kind.NotHeld (at p))

-- each atom of these assertions holds for thread t
abbrev pub atoms_hold : Width → Module → ℕ → List Object → Scene → Kind → Placing → List Assertion → Res (Unit {0})
atoms_hold fits m t heap s kind_of at all = then_do (read_assertions fits m (length heap) (owns_value heap t) s all) (settled kind_of at)

-- Whether the thread owns a lock that the duties don't name. Locks are looked for in the whole heap.
abbrev pub owns_other : List Duty → List Object → ℕ → ℕ → List Object → Bool
owns_other ds heap t i [] = false
owns_other ds heap t i (o ∷ os) = (owns heap t i && not (list_any (names_lock i) ds)) || owns_other ds heap t (suc i) os

-- whether a thread owns a lock beside those that the duties name
abbrev pub owns_beside : List Duty → List Object → ℕ → Bool
owns_beside ds heap t = owns_other ds heap t 0 heap

abbrev pub owns_any : List Object → ℕ → Bool
owns_any heap t = owns_beside [] heap t

abbrev pub is_bound_by : Option ℤ → Bool
is_bound_by measure = option_map_or (λ n. true) measure false

-- a lock's invariant holds on a heap: kind 14 where the lock is made or released
abbrev pub lock_invariant_holds : Width → Module → List Object → ℕ → ℕ → Place → Res (Unit {0})
lock_invariant_holds fits m heap pred lock p =
    then_do (opens_within fits m (scene_of m heap heap [] None) (room m (length heap)) [] pred (Ref lock ∷ [])) (tested kind.LockInvariant p)
