-- What the program may answer to words, where these files are held.
use Rattle.std.specs.Prelude.{◌≡◌, ◌≤◌, ◌<◌, ℕ, List, length, Option, Some, None, IfSome, codes}
use Rattle.io_edge.specs.Outside.{Held, held_at}
use Rattle.nagini_cli.specs.Answers.{Answers}
use Rattle.nagini_cli.specs.Commands.{Check, Run, command_of}
use Rattle.nagini_cli.specs.RunAnswers.{RunAnswers}
use Rattle.nagini_cli.specs.Texts.{usage_line, limit_line, read_fault_line}
use Rattle.nagini_cli.specs.declared.status.TheConstants.{LIMIT, USAGE, READ_FAULT}
use Rattle.nagini_cli.specs.declared.check.TheConstants.{FILE_LIMIT}

-- a file has these bytes, where the files are told
abbrev pub IsHeldAs : Option Held → List ℕ → List ℕ → Type 0
IsHeldAs held name bytes = IfSome held (λ files. held_at files name ≡ Some bytes)

-- what `check` may answer for a file
pub data ChecksFile (held : Option Held) (file : List ℕ) (status : ℕ) (text : List ℕ) : Type 0 where
  read_fault : status ≡ READ_FAULT → text ≡ read_fault_line file → ChecksFile held file status text
  answered : (bytes : List ℕ) → IsHeldAs held file bytes → Answers bytes status text → ChecksFile held file status text

-- what `run` may answer for the file of a module and that of a schedule, which are read in this order
pub data RunsFiles (held : Option Held) (file schedule : List ℕ) (status : ℕ) (text : List ℕ) : Type 0 where
  file_fault : status ≡ READ_FAULT → text ≡ read_fault_line file → RunsFiles held file schedule status text
  schedule_fault : (bytes : List ℕ) → IsHeldAs held file bytes → length bytes ≤ FILE_LIMIT → status ≡ READ_FAULT → text ≡ read_fault_line schedule → RunsFiles held file schedule status text
  long_file : (bytes : List ℕ) → IsHeldAs held file bytes → FILE_LIMIT < length bytes → status ≡ LIMIT → text ≡ limit_line (codes "file") → RunsFiles held file schedule status text
  both_read : (bytes script : List ℕ) → IsHeldAs held file bytes → IsHeldAs held schedule script → RunAnswers bytes script status text → RunsFiles held file schedule status text

-- what may be answered to words, where these files are held
pub data Allowed (words : List (List ℕ)) (held : Option Held) (status : ℕ) (text : List ℕ) : Type 0 where
  usage : command_of words ≡ None → status ≡ USAGE → text ≡ usage_line → Allowed words held status text
  check : (file : List ℕ) → command_of words ≡ Some (Check file) → ChecksFile held file status text → Allowed words held status text
  run : (file schedule : List ℕ) → command_of words ≡ Some (Run file schedule) → RunsFiles held file schedule status text → Allowed words held status text

-- the words ask for a check of a file that is told to have these bytes
pub record AsksFor (words : List (List ℕ)) (held : Option Held) (bytes : List ℕ) : Type 0 where
  pub file : List ℕ
  pub files : Held
  pub command : command_of words ≡ Some (Check file)
  pub told : held ≡ Some files
  pub holds : held_at files file ≡ Some bytes

-- the words ask for a run of a file under another, which are told to have these bytes
pub record AsksToRun (words : List (List ℕ)) (held : Option Held) (bytes script : List ℕ) : Type 0 where
  pub file : List ℕ
  pub schedule : List ℕ
  pub files : Held
  pub command : command_of words ≡ Some (Run file schedule)
  pub told : held ≡ Some files
  pub holds_file : held_at files file ≡ Some bytes
  pub holds_schedule : held_at files schedule ≡ Some script
