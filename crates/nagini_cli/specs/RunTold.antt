-- What is promised of the answer to `run FILE SCHEDULE`, where the files are told.
use Rattle.std.specs.Prelude.{◌≡◌, ◌≤◌, ◌<◌, ℕ, List, length, Option, Some, None, Ok, Err, codes}
use Rattle.std.specs.Io.KnownBytes.{Appends}
use Rattle.io_edge.specs.Outside.{Held, held_at}
use Rattle.py_syntax.specs.declared.Module.{Module}
use Rattle.py_front.specs.Answers.{IsFront}
use Rattle.py_front.specs.declared.FrontFault.{FrontFault}
use Rattle.schedule_runner.specs.declared.schedule.ScheduleLine.{ScheduleLine}
use Rattle.schedule_runner.specs.declared.schedule.TheConstants.{STEP_LIMIT}
use Rattle.schedule_runner.specs.ScheduleText.{ReadsAs, IsFirstBad, steps_of}
use Rattle.nagini_cli.specs.Allowed.{AsksToRun}
use Rattle.nagini_cli.specs.Commands.{Run, command_of}
use Rattle.nagini_cli.specs.Refusals.{refusal_status, refusal_text}
use Rattle.nagini_cli.specs.RunAnswers.{AreShort, IsRunAnswer, run_status, run_text}
use Rattle.nagini_cli.specs.Statuses.{IsQuiet, IsAnswered, IsEnd}
use Rattle.nagini_cli.specs.Texts.{limit_line, read_fault_line, bad_schedule_line}
use Rattle.nagini_cli.specs.declared.status.TheConstants.{REFUSED, LIMIT, READ_FAULT}
use Rattle.nagini_cli.specs.declared.check.TheConstants.{FILE_LIMIT}

-- The files are read in their order, and nothing is read after one that isn't held or is too long.
pub record ReadsInOrder (words : List (List ℕ)) (held : Option Held) (status : ℕ) (old new : Option (List ℕ)) : Type 0 where
  pub file_not_held : (file schedule : List ℕ) (files : Held) → command_of words ≡ Some (Run file schedule) → held ≡ Some files → held_at files file ≡ None → IsQuiet status → (status ≡ READ_FAULT) × Appends old new (read_fault_line file)
  pub file_too_long : (file schedule bytes : List ℕ) (files : Held) → command_of words ≡ Some (Run file schedule) → held ≡ Some files → held_at files file ≡ Some bytes → FILE_LIMIT < length bytes → IsAnswered status → (status ≡ LIMIT) × Appends old new (limit_line (codes "file"))
  pub schedule_not_held : (file schedule : List ℕ) (files : Held) → command_of words ≡ Some (Run file schedule) → held ≡ Some files → held_at files schedule ≡ None → IsQuiet status → ((bytes : List ℕ) → held_at files file ≡ Some bytes → length bytes ≤ FILE_LIMIT) → status ≡ READ_FAULT

-- The answer to the bytes of both files is the one that there is, and each refusal comes before those of later parts.
pub record RunIsTold (words : List (List ℕ)) (held : Option Held) (status : ℕ) (old new : Option (List ℕ)) : Type 0 where
  pub told : (bytes script : List ℕ) → AsksToRun words held bytes script → IsAnswered status → (text : List ℕ) × IsRunAnswer bytes script status text × Appends old new text
  pub refused : (bytes script : List ℕ) (f : FrontFault) → AsksToRun words held bytes script → IsAnswered status → AreShort bytes script → IsFront bytes (Err f) → (status ≡ refusal_status f) × Appends old new (refusal_text f)
  pub bad_schedule : (bytes script : List ℕ) (m : Module) (n : ℕ) → AsksToRun words held bytes script → IsAnswered status → AreShort bytes script → IsFront bytes (Ok m) → IsFirstBad script n → (status ≡ REFUSED) × Appends old new (bad_schedule_line n)
  pub too_many_steps : (bytes script : List ℕ) (m : Module) (all : List ScheduleLine) → AsksToRun words held bytes script → IsAnswered status → AreShort bytes script → IsFront bytes (Ok m) → ReadsAs script all → STEP_LIMIT < steps_of all → (status ≡ LIMIT) × Appends old new (limit_line (codes "schedule"))
  pub plays : (bytes script : List ℕ) (m : Module) (all : List ScheduleLine) → AsksToRun words held bytes script → IsAnswered status → AreShort bytes script → IsFront bytes (Ok m) → ReadsAs script all → steps_of all ≤ STEP_LIMIT → (status ≡ run_status m all) × Appends old new (run_text m all)
  pub played : (bytes script : List ℕ) → AsksToRun words held bytes script → IsEnd status → (m : Module) × (all : List ScheduleLine) × IsFront bytes (Ok m) × ReadsAs script all × (status ≡ run_status m all) × Appends old new (run_text m all)
