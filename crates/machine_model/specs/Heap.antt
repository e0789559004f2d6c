-- What is read of a heap: the fields of objects, locks, and the objects of threads.
use Rattle.std.specs.Prelude.{ℕ, ◌+◌, ℤ, pos, Bool, true, false, List, length, Option, Some, None, slice_get, slice_set, nat_eq}
use Rattle.std.specs.Option.{option_map, option_and_then, option_map_or}
use Rattle.std.specs.FinMap as map
use Rattle.py_syntax.specs.declared.Value.{Value}
use Rattle.py_syntax.specs.declared.Value.TheVariants.{Num, Ref}
use Rattle.py_syntax.specs.declared.Module.{Module}
use Rattle.machine_model.specs.declared.state.Object.{Object}
use Rattle.machine_model.specs.declared.state.LockState.{LockState}

-- the value of a field of an object, if the object has it
abbrev pub field_of : List Object → ℕ → ℕ → Option Value
field_of heap r f = option_and_then (λ (o : Object). map.get o.fields f) (slice_get heap r)

-- the heap where a field of an object has this value
abbrev pub with_field : List Object → ℕ → ℕ → Value → Option (List Object)
with_field heap r f v = option_map (λ (o : Object). slice_set heap r (record o { fields = map.insert o.fields f v })) (slice_get heap r)

-- a lock, where the reference is one
abbrev pub lock_of : List Object → ℕ → Option LockState
lock_of heap r = option_and_then (λ (o : Object). o.lock) (slice_get heap r)

-- the heap where a lock has this owner, or none
abbrev pub with_owner : List Object → ℕ → Option ℕ → Option (List Object)
with_owner heap r owner =
    option_and_then (λ (o : Object).
    option_map (λ (l : LockState). slice_set heap r (record o { lock = Some (record l { owner = owner }) })) o.lock) (slice_get heap r)

abbrev pub is_some_of : Option ℕ → ℕ → Bool
is_some_of o t = option_map_or (nat_eq t) o false

-- whether a thread holds the lock
abbrev pub owns : List Object → ℕ → ℕ → Bool
owns heap t r = option_map_or (λ (l : LockState). is_some_of l.owner t) (lock_of heap r) false

-- whether anyone holds the lock
abbrev pub is_held : List Object → ℕ → Bool
is_held heap r = option_map_or (λ (l : LockState). option_map_or (λ (t : ℕ). true) l.owner false) (lock_of heap r) false

-- the object that a lock locks
abbrev pub locked_of : List Object → ℕ → Option Value
locked_of heap r = option_map (λ (l : LockState). Ref l.locked) (lock_of heap r)

-- The object of a thread has the number of classes as its class. Behind the names of the module stand the names of its fields: the target, the level, and the arguments.
abbrev pub target_name : Module → ℕ
target_name m = length m.names

abbrev pub level_name : Module → ℕ
level_name m = length m.names + 1

abbrev pub argument_name : Module → ℕ → ℕ
argument_name m i = length m.names + 2 + i

abbrev pub number_in : Option Value → Option ℤ
number_in (Some (Num z)) = Some z
number_in v = None

-- the level of a lock or of a thread
abbrev pub level_of : Module → List Object → ℕ → Option ℤ
level_of m heap r = elim (lock_of heap r) as (λ _. Option ℤ) [
  | Some l ↦ Some l.level
  | None ↦ number_in (field_of heap r (level_name m))
]

-- whether a thread's object was made for this target
abbrev pub has_target : Module → List Object → ℕ → ℕ → Bool
has_target m heap r f = elim (field_of heap r (target_name m)) as (λ _. Bool) [
  | Some v ↦ is_number v f
  | None ↦ false
]
  where
    is_number : Value → ℕ → Bool
    is_number (Num (pos n)) f = nat_eq n f
    is_number v f = false
