-- What the words ask for.
use Rattle.std.specs.Prelude.{◌≡◌, ◌⊎◌, ℕ, Bool, false, not, ◌&&◌, List, [], ◌∷◌, ◌==◌, codes, bytes_eq, Option, Some, None, if◌then◌else◌}
use Rattle.nagini_cli.specs.declared.words.Command.{Command as Told}
use Rattle.nagini_cli.specs.declared.words.Command.TheVariants as told

-- the commands that there are so far
pub data Command : Type 0 where
  Check : (file : List ℕ) → Command
  Run : (file schedule : List ℕ) → Command

-- A word may name a file that isn't empty and doesn't begin with `-`.
abbrev pub is_file : List ℕ → Bool
is_file [] = false
is_file (b ∷ bytes) = not (b == 45)

abbrev pub is_check : List ℕ → List ℕ → Bool
is_check word file = bytes_eq word (codes "check") && is_file file

abbrev pub is_run : List ℕ → List ℕ → List ℕ → Bool
is_run word file schedule = bytes_eq word (codes "run") && is_file file && is_file schedule

-- `check FILE` and `run FILE SCHEDULE` are commands, and no other words are
abbrev pub command_of : List (List ℕ) → Option Command
command_of [] = None
command_of (word ∷ []) = None
command_of (word ∷ file ∷ []) = if is_check word file then Some (Check file) else None
command_of (word ∷ file ∷ schedule ∷ []) = if is_run word file schedule then Some (Run file schedule) else None
command_of (word ∷ file ∷ schedule ∷ next ∷ words) = None

-- the command names this file
abbrev pub Names : Command → List ℕ → Type 0
Names (Check file) name = name ≡ file
Names (Run file schedule) name = (name ≡ file) ⊎ (name ≡ schedule)

-- a command as the program has read it
abbrev pub command_in : Told → Command
command_in (told.Check file) = Check file.now
command_in (told.Run file schedule) = Run file.now schedule.now
