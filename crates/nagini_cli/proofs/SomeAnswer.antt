-- There is an answer to the bytes of each file, and to those of each module's file with those of each schedule's, since the front has one to each text.
use Rattle.std.proofs.Common.{◌≡◌, ◌⊎◌, ℕ, ◌≤◌, ◌<◌, List, length, Option, None, Some, Result, Ok, Err, refl, inl, inr}
use Rattle.std.proofs.lemmas.Bool.{cases_lt}
use Rattle.py_base.specs.declared.Place.{Place}
use Rattle.py_syntax.specs.declared.Module.{Module}
use Rattle.py_syntax.specs.SmallForms.{IsSmallModule}
use Rattle.py_front.specs.Answers.{IsFront}
use Rattle.small_module.specs.Spelled.{IsMainAlone}
use Rattle.py_front.specs.declared.FrontFault.{FrontFault}
use Rattle.schedule_runner.specs.declared.schedule.ScheduleLine.{ScheduleLine}
use Rattle.schedule_runner.specs.declared.schedule.TheConstants.{STEP_LIMIT}
use Rattle.schedule_runner.specs.ScheduleText.{ReadsAs, IsFirstBad, steps_of}
use Rattle.nagini_cli.specs.SmallRun.{first_false, false_assert_text}
use Rattle.nagini_cli.specs.Texts.{accepted_line}
use Rattle.nagini_cli.specs.Answers.{Answers, too_long, refused}
use Rattle.nagini_cli.specs.RunAnswers.{AreShort, RunAnswers, file_too_long, schedule_too_long, bad_schedule, too_many_steps, runs}
use Rattle.nagini_cli.specs.RunAnswers as run
use Rattle.nagini_cli.specs.declared.status.TheConstants.{ACCEPTED, NOT_PROVED}
use Rattle.nagini_cli.specs.declared.check.TheConstants.{FILE_LIMIT}
use Rattle.nagini_cli.proofs.Answered.{answers_verdict}

-- what is known of the front's answers
pub record FrontLaws : Type 0 where
  pub some : (text : List ℕ) → (answer : Result Module FrontFault) × IsFront text answer
  pub shape : (text : List ℕ) (m : Module) → IsFront text (Ok m) → IsSmallModule m
  pub alone : (text : List ℕ) (m : Module) → IsFront text (Ok m) → IsMainAlone m

abbrev pub HasAnswer : List ℕ → Type 0
HasAnswer bytes = (status : ℕ) × (text : List ℕ) × Answers bytes status text

abbrev pub HasRunAnswer : List ℕ → List ℕ → Type 0
HasRunAnswer bytes script = (status : ℕ) × (text : List ℕ) × RunAnswers bytes script status text

-- a schedule, or its first line that is none's
abbrev pub HasSchedule : List ℕ → Type 0
HasSchedule text = ((all : List ScheduleLine) × ReadsAs text all) ⊎ ((n : ℕ) × IsFirstBad text n)

verdict_of : (bytes : List ℕ) (m : Module) (place : Option Place) → length bytes ≤ FILE_LIMIT → IsFront bytes (Ok m) → IsSmallModule m → IsMainAlone m → first_false m ≡ place → HasAnswer bytes
verdict_of bytes m None within spelled small alone is = (_, _, answers_verdict bytes m None ACCEPTED (accepted_line 1) within spelled small alone is (refl, refl))
verdict_of bytes m (Some place) within spelled small alone is = (_, _, answers_verdict bytes m (Some place) NOT_PROVED (false_assert_text place) within spelled small alone is (refl, refl))

answer_of : FrontLaws → (bytes : List ℕ) → length bytes ≤ FILE_LIMIT → (r : Result Module FrontFault) → IsFront bytes r → HasAnswer bytes
answer_of laws bytes within (Ok m) h = verdict_of bytes m (first_false m) within h (laws.shape bytes m h) (laws.alone bytes m h) refl
answer_of laws bytes within (Err f) h = (_, _, refused within f h refl refl)

answer_within : FrontLaws → (bytes : List ℕ) → length bytes ≤ FILE_LIMIT → HasAnswer bytes
answer_within laws bytes within = let said = laws.some bytes in answer_of laws bytes within said.0 said.1

sized : FrontLaws → (bytes : List ℕ) → (FILE_LIMIT < length bytes) ⊎ (length bytes ≤ FILE_LIMIT) → HasAnswer bytes
sized laws bytes (inl long) = (_, _, too_long long refl refl)
sized laws bytes (inr within) = answer_within laws bytes within

pub some_answer : FrontLaws → (bytes : List ℕ) → HasAnswer bytes
some_answer laws bytes = sized laws bytes (cases_lt FILE_LIMIT (length bytes))

counted : (bytes script : List ℕ) → AreShort bytes script → (m : Module) (all : List ScheduleLine) → IsFront bytes (Ok m) → ReadsAs script all → (STEP_LIMIT < steps_of all) ⊎ (steps_of all ≤ STEP_LIMIT) → HasRunAnswer bytes script
counted bytes script short m all spelled reads (inl many) = (_, _, too_many_steps short m all spelled reads many refl refl)
counted bytes script short m all spelled reads (inr few) = (_, _, runs short m all spelled reads few refl refl)

scheduled : (bytes script : List ℕ) → AreShort bytes script → (m : Module) → IsFront bytes (Ok m) → HasSchedule script → HasRunAnswer bytes script
scheduled bytes script short m spelled (inl (all, reads)) = counted bytes script short m all spelled reads (cases_lt STEP_LIMIT (steps_of all))
scheduled bytes script short m spelled (inr (n, bad)) = (_, _, bad_schedule short m n spelled bad refl refl)

run_of : (bytes script : List ℕ) → AreShort bytes script → HasSchedule script → (r : Result Module FrontFault) → IsFront bytes r → HasRunAnswer bytes script
run_of bytes script short schedule (Ok m) h = scheduled bytes script short m h schedule
run_of bytes script short schedule (Err f) h = (_, _, run.refused short f h refl refl)

within_both : FrontLaws → ((text : List ℕ) → HasSchedule text) → (bytes script : List ℕ) → AreShort bytes script → HasRunAnswer bytes script
within_both laws schedules bytes script short = let said = laws.some bytes in run_of bytes script short (schedules script) said.0 said.1

second_sized : FrontLaws → ((text : List ℕ) → HasSchedule text) → (bytes script : List ℕ) → length bytes ≤ FILE_LIMIT → (FILE_LIMIT < length script) ⊎ (length script ≤ FILE_LIMIT) → HasRunAnswer bytes script
second_sized laws schedules bytes script within (inl long) = (_, _, schedule_too_long within long refl refl)
second_sized laws schedules bytes script within (inr short) = within_both laws schedules bytes script (record { module_is = within; schedule_is = short })

first_sized : FrontLaws → ((text : List ℕ) → HasSchedule text) → (bytes script : List ℕ) → (FILE_LIMIT < length bytes) ⊎ (length bytes ≤ FILE_LIMIT) → HasRunAnswer bytes script
first_sized laws schedules bytes script (inl long) = (_, _, file_too_long long refl refl)
first_sized laws schedules bytes script (inr within) = second_sized laws schedules bytes script within (cases_lt FILE_LIMIT (length script))

pub some_run_answer : FrontLaws → ((text : List ℕ) → HasSchedule text) → (bytes script : List ℕ) → HasRunAnswer bytes script
some_run_answer laws schedules bytes script = first_sized laws schedules bytes script (cases_lt FILE_LIMIT (length bytes))
