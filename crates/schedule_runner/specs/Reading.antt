-- How a schedule is read: what each part of a line is read as, and then line by line.
use Rattle.std.specs.Prelude.{◌≡◌, ◌⊎◌, ◌+◌, ◌-◌, ◌*◌, ℕ, Bool, true, not, ◌&&◌, ◌||◌, List, [], ◌∷◌, ◌++◌, length, take, drop, nat_lt, nat_le, ◌==◌, slice_index, fold, codes, bytes_eq, Option, Some, None, if◌then◌else◌, Result, Ok, Err}
use Rattle.std.specs.List.{list_all, position_or_len, before_first, after_first}
use Rattle.std.specs.Char.{is_ascii_digit}
use Rattle.std.specs.Str.{is_utf8}
use Rattle.schedule_runner.specs.declared.schedule.ScheduleLine.{ScheduleLine}
use Rattle.schedule_runner.specs.declared.schedule.ScheduleLine.TheVariants.{Give, Fair}
use Rattle.schedule_runner.specs.declared.schedule.Schedule.{Schedule}
use Rattle.schedule_runner.specs.declared.fault.ScheduleFault.{ScheduleFault}
use Rattle.schedule_runner.specs.declared.fault.ScheduleFault.TheVariants.{BadSchedule, ScheduleTooLong, OutOfMemory}
use Rattle.schedule_runner.specs.declared.schedule.TheConstants.{STEP_LIMIT}
use Rattle.schedule_runner.specs.ScheduleText.{head, steps_of}

infixl 10 ◌>>=◌
-- the next reading, where there was something to read
abbrev pub ◌>>=◌ : {A B : Type 0} → Option A → (A → Option B) → Option B
None >>= f = None
(Some x) >>= f = f x

abbrev pub is_digit : ℕ → Bool
is_digit b = nat_le 48 b && nat_le b 57

unfoldable pub is_number : List ℕ → Bool
is_number bytes = list_all is_digit bytes && nat_lt 0 (length bytes) && nat_le (length bytes) 18 && (not (slice_index bytes 0 == 48) || (length bytes == 1))

unfoldable pub number_value : List ℕ → ℕ
number_value bytes = fold (λ n b. n * 10 + (b - 48)) 0 bytes

unfoldable pub number_of : List ℕ → Option ℕ
number_of bytes = if is_number bytes then Some (number_value bytes) else None

unfoldable pub count_of : List ℕ → Option ℕ
count_of bytes = number_of bytes >>= λ k. if k == 0 then None else Some k

-- what stands behind a front
abbrev pub behind : List ℕ → List ℕ → Option (List ℕ)
behind front bytes = if bytes_eq (take (length front) bytes) front then Some (drop (length front) bytes) else None

-- what stands before the first byte of a kind, and behind it
abbrev pub cut_at : ℕ → List ℕ → Option (List ℕ × List ℕ)
cut_at b bytes = if nat_lt (position_or_len (λ c. c == b) bytes) (length bytes) then Some (before_first (λ c. c == b) bytes, after_first (λ c. c == b) bytes) else None

-- `N K`
unfoldable pub give_of : List ℕ → Option ScheduleLine
give_of line = cut_at 32 line >>= λ parts. number_of parts.0 >>= λ n. count_of parts.1 >>= λ k. Some (Give n k)

-- `fair K` or `N K`
unfoldable pub line_of : List ℕ → Option ScheduleLine
line_of line = elim (behind (codes "fair ") line) as (λ _. Option ScheduleLine) [
  | Some count ↦ count_of count >>= λ k. Some (Fair k)
  | None ↦ give_of line
]

-- nothing, or a comment
unfoldable pub is_silent : List ℕ → Bool
is_silent line = (length line == 0) || ((slice_index line 0 == 35) && is_utf8 line)

-- the answer to these lines, the first of which is line n, behind lines that say this
abbrev pub scan : ℕ → List ScheduleLine → List (List ℕ) → Result (List ScheduleLine) ScheduleFault
scan n said [] = Ok said
scan n said (line ∷ more) = if is_silent line then scan (n + 1) said more else elim (line_of line) as (λ _. Result (List ScheduleLine) ScheduleFault) [
  | None ↦ Err (BadSchedule n)
  | Some says ↦ scan (n + 1) (said ++ says ∷ []) more
]

-- the answer to the lines of a text
abbrev pub scan_all : List (List ℕ) → Result (List ScheduleLine) ScheduleFault
scan_all [] = Err (BadSchedule 1)
scan_all (line ∷ more) = if bytes_eq line head then scan 2 [] more else Err (BadSchedule 1)

-- an answer is what was read, unless memory was missing
abbrev pub Gives : Result (List ScheduleLine) ScheduleFault → Result (List ScheduleLine) ScheduleFault → Type 0
Gives (Ok all) read = read ≡ Ok all
Gives (Err (BadSchedule n)) read = read ≡ Err (BadSchedule n)
Gives (Err ScheduleTooLong) read = ⊥
Gives (Err OutOfMemory) read = Unit {0}

-- a schedule whose steps are too many is refused
abbrev pub limited : Result (List ScheduleLine) ScheduleFault → Result Schedule ScheduleFault
limited (Ok all) = if nat_lt STEP_LIMIT (steps_of all) then Err ScheduleTooLong else Ok (record { lines = all })
limited (Err fault) = Err fault

-- the schedule, unless memory was missing
abbrev pub OkOrNoMemory : Result Schedule ScheduleFault → List ScheduleLine → Type 0
OkOrNoMemory answer all = (answer ≡ Ok (record { lines = all })) ⊎ (answer ≡ Err OutOfMemory)

-- the fault, unless memory was missing
abbrev pub ErrOrNoMemory : Result Schedule ScheduleFault → ScheduleFault → Type 0
ErrOrNoMemory answer fault = (answer ≡ Err fault) ⊎ (answer ≡ Err OutOfMemory)
