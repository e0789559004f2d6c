-- The locks of a thread, looked for object by object.
use Rattle.std.specs.Prelude.{ℕ, Bool, false}
use Rattle.std.specs.Option.{option_map_or}
use Rattle.machine_model.specs.declared.state.Object.{Object}
use Rattle.machine_model.specs.declared.state.LockState.{LockState}
use Rattle.machine_model.specs.Heap.{is_some_of}

-- whether an object is a lock that thread t holds
abbrev pub is_owned : ℕ → Object → Bool
is_owned t o = option_map_or (λ (l : LockState). is_some_of l.owner t) o.lock false
