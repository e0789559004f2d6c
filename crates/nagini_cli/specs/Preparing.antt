-- What stands ready for a run, or is answered in its place.
use Rattle.std.specs.Prelude.{◌≡◌, ◌≤◌, ℕ, List, Option, Ok}
use Rattle.py_syntax.specs.declared.Module.{Module}
use Rattle.py_front.specs.Answers.{IsFront}
use Rattle.io_edge.specs.Outside.{Held}
use Rattle.schedule_runner.specs.declared.schedule.ScheduleLine.{ScheduleLine}
use Rattle.schedule_runner.specs.declared.schedule.TheConstants.{STEP_LIMIT}
use Rattle.schedule_runner.specs.ScheduleText.{ReadsAs, steps_of}
use Rattle.nagini_cli.specs.declared.prepare.Prepared.{Prepared}
use Rattle.nagini_cli.specs.declared.prepare.Prepared.TheVariants.{Answered, Ready}
use Rattle.nagini_cli.specs.Allowed.{IsHeldAs, RunsFiles}
use Rattle.nagini_cli.specs.Replies.{text_of}
use Rattle.nagini_cli.specs.RunAnswers.{AreShort, RunAnswers}
use Rattle.nagini_cli.specs.Texts.{read_fault_line}
use Rattle.nagini_cli.specs.declared.status.TheConstants.{READ_FAULT}

-- the bytes give this module and this schedule
pub record Give (bytes script : List ℕ) (m : Module) (all : List ScheduleLine) : Type 0 where
  pub small : IsFront bytes (Ok m)
  pub reads : ReadsAs script all
  pub few : steps_of all ≤ STEP_LIMIT

-- by the bytes of both files
abbrev pub ByBytes : List ℕ → List ℕ → Prepared → Type 0
ByBytes bytes script (Answered r) = RunAnswers bytes script r.status (text_of r)
ByBytes bytes script (Ready m s) = Give bytes script m s.lines

-- files that are held as bytes that give this module and this schedule
pub record GiveFiles (held : Option Held) (file schedule : List ℕ) (m : Module) (all : List ScheduleLine) : Type 0 where
  pub bytes : List ℕ
  pub script : List ℕ
  pub holds_file : IsHeldAs held file bytes
  pub holds_schedule : IsHeldAs held schedule script
  pub short : AreShort bytes script
  pub give : Give bytes script m all

-- by the names of both files
abbrev pub ByFiles : Option Held → List ℕ → List ℕ → Prepared → Type 0
ByFiles held file schedule (Answered r) = RunsFiles held file schedule r.status (text_of r)
ByFiles held file schedule (Ready m s) = GiveFiles held file schedule m s.lines

-- a read fault is answered
abbrev pub IsUnread : Prepared → Type 0
IsUnread (Answered r) = r.status ≡ READ_FAULT
IsUnread (Ready m s) = ⊥

-- the answer is that the read of this file failed
abbrev pub TellsFault : Prepared → List ℕ → Type 0
TellsFault (Answered r) name = text_of r ≡ read_fault_line name
TellsFault (Ready m s) name = ⊥
