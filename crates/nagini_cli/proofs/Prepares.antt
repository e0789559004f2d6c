-- What stands ready for a run, from the bytes to the names of the files.
use Rattle.std.proofs.Common.{◌≡◌, ℕ, List, Option, refl, subst}
use Rattle.io_edge.specs.Outside.{Held}
use Rattle.py_syntax.specs.declared.Module.{Module}
use Rattle.schedule_runner.specs.declared.schedule.ScheduleLine.{ScheduleLine}
use Rattle.nagini_cli.specs.declared.prepare.Prepared.{Prepared}
use Rattle.nagini_cli.specs.declared.prepare.Prepared.TheVariants.{Answered, Ready}
use Rattle.nagini_cli.specs.declared.reply.Reply.{Reply}
use Rattle.nagini_cli.specs.declared.status.TheConstants.{READ_FAULT}
use Rattle.nagini_cli.specs.Allowed.{IsHeldAs, RunsFiles, both_read}
use Rattle.nagini_cli.specs.Preparing.{ByBytes, ByFiles, GiveFiles, IsUnread, TellsFault}
use Rattle.nagini_cli.specs.RunAnswers.{AreShort, runs, run_status, run_text}

pub by_files : (held : Option Held) (file schedule bytes script : List ℕ) (p : Prepared) → IsHeldAs held file bytes → IsHeldAs held schedule script → AreShort bytes script → ByBytes bytes script p → ByFiles held file schedule p
by_files held file schedule bytes script (Answered r) holds also short by = both_read bytes script holds also by
by_files held file schedule bytes script (Ready m s) holds also short by = record { bytes = bytes; script = script; holds_file = holds; holds_schedule = also; short = short; give = by }

-- the run of what stands ready is what is allowed for the files
pub runs_files : (held : Option Held) (file schedule : List ℕ) (m : Module) (all : List ScheduleLine) (status : ℕ) → GiveFiles held file schedule m all → status ≡ run_status m all → RunsFiles held file schedule status (run_text m all)
runs_files held file schedule m all status from is = both_read from.bytes from.script from.holds_file from.holds_schedule (runs from.short m all from.give.small from.give.reads from.give.few is refl)

-- what was promised with a read fault
pub promised_with_fault : (N Q : List ℕ → Type 0) (R : Type 0) (p : Prepared) (r : Reply) → p ≡ Answered r → (IsUnread p → (name : List ℕ) × N name × R × Q name × TellsFault p name) → r.status ≡ READ_FAULT → R
promised_with_fault N Q R p r is promised fault = (subst (λ (x : Prepared). IsUnread x → (name : List ℕ) × N name × R × Q name × TellsFault x name) is promised fault).2
