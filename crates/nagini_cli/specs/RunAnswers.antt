-- What `run` may answer to the bytes of a module and of a schedule: a status, and a text before it.
use Rattle.std.specs.Prelude.{◌≡◌, ◌≤◌, ◌<◌, ◌++◌, ℕ, List, [], length, Ok, Err, codes}
use Rattle.py_syntax.specs.declared.Module.{Module}
use Rattle.py_front.specs.Answers.{IsFront}
use Rattle.py_front.specs.declared.FrontFault.{FrontFault}
use Rattle.machine_values.specs.Bits.{has_128_bits}
use Rattle.schedule_runner.specs.declared.schedule.ScheduleLine.{ScheduleLine}
use Rattle.schedule_runner.specs.declared.schedule.TheConstants.{STEP_LIMIT}
use Rattle.schedule_runner.specs.declared.ending.RunEnd.{RunEnd}
use Rattle.schedule_runner.specs.declared.ending.RunEnd.TheVariants as ending
use Rattle.schedule_runner.specs.ScheduleText.{ReadsAs, IsFirstBad, steps_of}
use Rattle.schedule_runner.specs.Output as output
use Rattle.schedule_runner.specs.Output.{Outcome, output_of}
use Rattle.nagini_cli.specs.Refusals.{refusal_status, refusal_text}
use Rattle.nagini_cli.specs.Texts.{limit_line, bad_schedule_line, stopped_line, stuck_line, spent_line, too_large_line}
use Rattle.nagini_cli.specs.declared.status.TheConstants.{FINISHED, REFUSED, STOPPED, SPENT, TOO_LARGE, LIMIT}
use Rattle.nagini_cli.specs.declared.check.TheConstants.{FILE_LIMIT}

-- the status of a run by its end
abbrev pub status_of : RunEnd → ℕ
status_of ending.Finished = FINISHED
status_of (ending.Stopped kind place thread) = STOPPED
status_of (ending.Stuck threads) = STOPPED
status_of (ending.Spent threads) = SPENT
status_of (ending.TooLarge place) = TOO_LARGE

-- the line that tells the end; there is none where all threads have ended
abbrev pub end_text : RunEnd → List ℕ
end_text ending.Finished = []
end_text (ending.Stopped kind place thread) = stopped_line kind place thread
end_text (ending.Stuck threads) = stuck_line threads
end_text (ending.Spent threads) = spent_line threads
end_text (ending.TooLarge place) = too_large_line place

-- what comes of a run with numbers of 128 bits
abbrev pub run_of : Module → List ScheduleLine → Outcome
run_of m all = output_of has_128_bits m all

abbrev pub run_status : Module → List ScheduleLine → ℕ
run_status m all = status_of (run_of m all).ends

-- what the run prints, and then its end
abbrev pub run_text : Module → List ScheduleLine → List ℕ
run_text m all = output.text_of (run_of m all).lines ++ end_text (run_of m all).ends

-- neither text is longer than a file may be
pub record AreShort (bytes script : List ℕ) : Type 0 where
  pub module_is : length bytes ≤ FILE_LIMIT
  pub schedule_is : length script ≤ FILE_LIMIT

-- what `run` answers to the bytes of a module and of a schedule
pub data RunAnswers (bytes script : List ℕ) (status : ℕ) (text : List ℕ) : Type 0 where
  file_too_long : FILE_LIMIT < length bytes → status ≡ LIMIT → text ≡ limit_line (codes "file") → RunAnswers bytes script status text
  schedule_too_long : length bytes ≤ FILE_LIMIT → FILE_LIMIT < length script → status ≡ LIMIT → text ≡ limit_line (codes "file") → RunAnswers bytes script status text
  refused : AreShort bytes script → (f : FrontFault) → IsFront bytes (Err f) → status ≡ refusal_status f → text ≡ refusal_text f → RunAnswers bytes script status text
  bad_schedule : AreShort bytes script → (m : Module) (n : ℕ) → IsFront bytes (Ok m) → IsFirstBad script n → status ≡ REFUSED → text ≡ bad_schedule_line n → RunAnswers bytes script status text
  too_many_steps : AreShort bytes script → (m : Module) (all : List ScheduleLine) → IsFront bytes (Ok m) → ReadsAs script all → STEP_LIMIT < steps_of all → status ≡ LIMIT → text ≡ limit_line (codes "schedule") → RunAnswers bytes script status text
  runs : AreShort bytes script → (m : Module) (all : List ScheduleLine) → IsFront bytes (Ok m) → ReadsAs script all → steps_of all ≤ STEP_LIMIT → status ≡ run_status m all → text ≡ run_text m all → RunAnswers bytes script status text

-- the one answer that there is to the bytes of both
pub record IsRunAnswer (bytes script : List ℕ) (status : ℕ) (text : List ℕ) : Type 0 where
  pub answers : RunAnswers bytes script status text
  pub only : (s : ℕ) (t : List ℕ) → RunAnswers bytes script s t → (status ≡ s) × (text ≡ t)
