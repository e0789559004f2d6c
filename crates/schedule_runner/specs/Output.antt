-- The output of a run of a module under a schedule: the lines that it prints, and how it ends.
use Rattle.std.specs.Prelude.{ℕ, zero, suc, ◌+◌, List, [], ◌∷◌, ◌++◌, length, replicate, flat_map, nat_lt, Option, Some, None, if◌then◌else◌}
use Rattle.std.specs.Option.{option_map_or}
use Rattle.py_syntax.specs.declared.Module.{Module}
use Rattle.machine_model.specs.declared.state.ThreadState.{ThreadState}
use Rattle.machine_model.specs.declared.state.State.{State}
use Rattle.machine_model.specs.Results.{Width}
use Rattle.machine_model.specs.Steps.{Stepped, Same, Went, Fails, TooLarge, step, one_of, first_state}
use Rattle.machine_model.specs.Stuck.{all_ended, is_stuck}
use Rattle.schedule_runner.specs.declared.schedule.ScheduleLine.{ScheduleLine}
use Rattle.schedule_runner.specs.declared.schedule.ScheduleLine.TheVariants.{Give, Fair}
use Rattle.schedule_runner.specs.declared.grant.Grant.{Grant}
use Rattle.schedule_runner.specs.declared.grant.Grant.TheVariants.{To, Following}
use Rattle.schedule_runner.specs.declared.ending.RunEnd.{RunEnd}
use Rattle.schedule_runner.specs.declared.ending.RunEnd.TheVariants as ending

-- `fair K` grants the first step to thread 0, and each further one to the thread that follows.
abbrev pub fair_grants : ℕ → List Grant
fair_grants zero = []
fair_grants (suc k) = To 0 ∷ replicate k Following

-- `N K` grants K steps to thread N.
abbrev pub grants_in : ScheduleLine → List Grant
grants_in (Give n k) = replicate k (To n)
grants_in (Fair k) = fair_grants k

-- the grants of a schedule, one for each step
abbrev pub grants_of : List ScheduleLine → List Grant
grants_of all = flat_map grants_in all

-- The thread that gets a step. The one that follows has the next number after the thread that got the step before, if there is such a thread now, and else it is thread 0.
abbrev pub thread_of : State → ℕ → Grant → ℕ
thread_of s last (To n) = n
thread_of s last Following = if nat_lt (last + 1) (length s.threads) then last + 1 else 0

-- the numbers of the threads that have not ended, where the first of these has this number
abbrev pub unfinished_from : ℕ → List ThreadState → List ℕ
unfinished_from n [] = []
unfinished_from n (th ∷ threads) = if th.ended then unfinished_from (n + 1) threads else n ∷ unfinished_from (n + 1) threads

-- the numbers of the unfinished threads, in ascending order
abbrev pub unfinished : State → List ℕ
unfinished s = unfinished_from 0 s.threads

-- how a run ends in a state after which no step is taken
abbrev pub end_in : State → Option RunEnd
end_in s = if all_ended s then Some ending.Finished else if is_stuck s then Some (ending.Stuck (unfinished s)) else None

-- What comes of a run: the lines that it prints, and how it ends.
pub record Outcome : Type 0 where
  pub lines : List (List ℕ)
  pub ends : RunEnd

abbrev pub ended : RunEnd → Outcome
ended e = record { lines = []; ends = e }

-- lines in front of what comes later
abbrev pub before : List (List ℕ) → Outcome → Outcome
before lines later = record { lines = lines ++ later.lines; ends = later.ends }

-- a step of thread t, and what comes later in the state that it leaves
abbrev pub then_later : State → ℕ → Stepped → (State → Outcome) → Outcome
then_later s t Same later = later s
then_later s t (Went a new) later = before (one_of a.line) (later new)
then_later s t (Fails kind_of p) later = ended (ending.Stopped kind_of p t)
then_later s t (TooLarge p) later = ended (ending.TooLarge p)

-- What comes of these grants in a state, where thread `last` got the step before. The end is looked for before each step and behind the last.
abbrev pub output : Width → Module → List Grant → ℕ → State → Outcome
output fits m [] last s = option_map_or ended (end_in s) (ended (ending.Spent (unfinished s)))
output fits m (g ∷ grants) last s = option_map_or ended (end_in s) (then_later s (thread_of s last g) (step fits m s (thread_of s last g)) (output fits m grants (thread_of s last g)))

-- What comes of a run of the module under a schedule.
abbrev pub output_of : Width → Module → List ScheduleLine → Outcome
output_of fits m all = output fits m (grants_of all) 0 (first_state m)

-- a line with its LF
abbrev pub with_end : List ℕ → List ℕ
with_end line = line ++ 10 ∷ []

-- the text of lines
abbrev pub text_of : List (List ℕ) → List ℕ
text_of lines = flat_map with_end lines
