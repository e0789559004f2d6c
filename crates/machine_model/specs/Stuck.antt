-- When a run can't go on: some thread is unfinished, and every unfinished thread waits for a lock that is held or for a thread that hasn't ended.
use Rattle.std.specs.Prelude.{ℕ, Bool, true, false, not, ◌&&◌, List, [], ◌∷◌, Option, Some, None, slice_get, if◌then◌else◌}
use Rattle.std.specs.List.{list_all}
use Rattle.std.specs.Option.{option_map_or}
use Rattle.py_syntax.specs.declared.Value.{Value}
use Rattle.py_syntax.specs.declared.Value.TheVariants.{Ref}
use Rattle.py_syntax.specs.declared.Item.{Item}
use Rattle.py_syntax.specs.declared.Item.TheVariants as item
use Rattle.machine_model.specs.declared.state.Frame.{Frame}
use Rattle.machine_model.specs.declared.state.ThreadState.{ThreadState}
use Rattle.machine_model.specs.declared.state.State.{State}
use Rattle.machine_model.specs.Heap.{is_held}
use Rattle.machine_model.specs.Sharing.{thread_of}

-- whether the lock on the stack is held
abbrev pub lock_is_held : State → List Value → Bool
lock_is_held s (Ref r ∷ st) = is_held s.heap r
lock_is_held s st = false

-- whether the thread whose object is on the stack was started and hasn't ended
abbrev pub thread_runs : State → List Value → Bool
thread_runs s (Ref r ∷ st) = option_map_or (λ (th : ℕ × ThreadState). not (th.1).ended) (thread_of r s.threads) false
thread_runs s st = false

-- whether the next item of a frame waits
abbrev pub item_waits : State → List Value → List (Item Value) → Bool
item_waits s st (item.Acquire p ∷ control) = lock_is_held s st
item_waits s st (item.With p body ∷ control) = lock_is_held s st
item_waits s st (item.Join p function ∷ control) = thread_runs s st
item_waits s st control = false

abbrev pub frames_wait : State → List Frame → Bool
frames_wait s [] = false
frames_wait s (f ∷ below) = item_waits s f.stack f.control

-- a thread has ended, or waits
abbrev pub is_idle : State → ThreadState → Bool
is_idle s th = if th.ended then true else frames_wait s th.frames

abbrev pub all_ended : State → Bool
all_ended s = list_all (λ (th : ThreadState). th.ended) s.threads

-- The state is stuck.
abbrev pub is_stuck : State → Bool
is_stuck s = not (all_ended s) && list_all (is_idle s) s.threads

-- whether a thread that is there has not ended and doesn't wait
abbrev pub thread_can_move : State → Option ThreadState → Bool
thread_can_move s None = false
thread_can_move s (Some th) = not (is_idle s th)

-- A thread can do its next item.
abbrev pub can_move : State → ℕ → Bool
can_move s t = thread_can_move s (slice_get s.threads t)
