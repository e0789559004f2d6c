-- There is one answer at most to the bytes of each module's file with those of each schedule's: each of the two has one reading or one fault.
use Rattle.std.proofs.Common.{◌≡◌, ℕ, ◌≤◌, ◌<◌, List, length, Ok, Err, sym, ap, subst, ◌∙◌, arith}
use Rattle.std.specs.Prelude.{codes}
use Rattle.py_syntax.specs.declared.Module.{Module}
use Rattle.py_front.specs.Answers.{IsFront}
use Rattle.py_front.specs.declared.FrontFault.{FrontFault}
use Rattle.schedule_runner.specs.declared.schedule.ScheduleLine.{ScheduleLine}
use Rattle.schedule_runner.specs.declared.schedule.TheConstants.{STEP_LIMIT}
use Rattle.schedule_runner.specs.ScheduleText.{ReadsAs, IsFirstBad, steps_of}
use Rattle.nagini_cli.specs.Refusals.{refusal_status, refusal_text}
use Rattle.nagini_cli.specs.Texts.{limit_line, bad_schedule_line}
use Rattle.nagini_cli.specs.RunAnswers.{AreShort, RunAnswers, file_too_long, schedule_too_long, refused, bad_schedule, too_many_steps, runs, run_status, run_text}
use Rattle.nagini_cli.specs.declared.status.TheConstants.{LIMIT, REFUSED}
use Rattle.nagini_cli.specs.declared.check.TheConstants.{FILE_LIMIT}
use Rattle.nagini_cli.proofs.Answered.{TextLaws, one_module, one_fault, not_both}

-- what the definition of schedule texts says of each text
pub record ScheduleLaws : Type 0 where
  pub one_schedule : (text : List ℕ) (all others : List ScheduleLine) → ReadsAs text all → ReadsAs text others → all ≡ others
  pub one_line : (text : List ℕ) (m n : ℕ) → IsFirstBad text m → IsFirstBad text n → m ≡ n
  pub not_both : (text : List ℕ) (all : List ScheduleLine) (n : ℕ) → ReadsAs text all → ¬ IsFirstBad text n

not_both_counts : (all others : List ScheduleLine) → all ≡ others → STEP_LIMIT < steps_of all → steps_of others ≤ STEP_LIMIT → ⊥
not_both_counts all others same many few = apart (steps_of all) many (subst (λ (l : List ScheduleLine). steps_of l ≤ STEP_LIMIT) (sym same) few)
  where
    apart : (n : ℕ) → STEP_LIMIT < n → n ≤ STEP_LIMIT → ⊥
    apart n more less = omega arith

same_run : (m n : Module) (all others : List ScheduleLine) (s t : ℕ) (x y : List ℕ) → m ≡ n → all ≡ others → s ≡ run_status m all → x ≡ run_text m all → t ≡ run_status n others → y ≡ run_text n others → (s ≡ t) × (x ≡ y)
same_run m n all others s t x y is are a b c d = (
  a ∙ ap (λ (k : Module). run_status k all) is ∙ ap (λ (l : List ScheduleLine). run_status n l) are ∙ sym c,
  b ∙ ap (λ (k : Module). run_text k all) is ∙ ap (λ (l : List ScheduleLine). run_text n l) are ∙ sym d,
)

only_file_too_long : (laws : TextLaws) (schedules : ScheduleLaws) (bytes script : List ℕ) (s : ℕ) (x : List ℕ) → FILE_LIMIT < length bytes → s ≡ LIMIT → x ≡ limit_line (codes "file") → (t : ℕ) (y : List ℕ) → RunAnswers bytes script t y → (s ≡ t) × (x ≡ y)
only_file_too_long laws schedules bytes script s x long a b t y (file_too_long long2 c d) = (a ∙ sym c, b ∙ sym d)
only_file_too_long laws schedules bytes script s x long a b t y (schedule_too_long within2 long2 c d) = absurd (omega (arith, long, within2))
only_file_too_long laws schedules bytes script s x long a b t y (refused short2 f2 front2 c d) = absurd (omega (arith, long, short2.module_is))
only_file_too_long laws schedules bytes script s x long a b t y (bad_schedule short2 m2 n2 spelled2 bad2 c d) = absurd (omega (arith, long, short2.module_is))
only_file_too_long laws schedules bytes script s x long a b t y (too_many_steps short2 m2 all2 spelled2 reads2 many2 c d) = absurd (omega (arith, long, short2.module_is))
only_file_too_long laws schedules bytes script s x long a b t y (runs short2 m2 all2 spelled2 reads2 few2 c d) = absurd (omega (arith, long, short2.module_is))

only_schedule_too_long : (laws : TextLaws) (schedules : ScheduleLaws) (bytes script : List ℕ) (s : ℕ) (x : List ℕ) → length bytes ≤ FILE_LIMIT → FILE_LIMIT < length script → s ≡ LIMIT → x ≡ limit_line (codes "file") → (t : ℕ) (y : List ℕ) → RunAnswers bytes script t y → (s ≡ t) × (x ≡ y)
only_schedule_too_long laws schedules bytes script s x within long a b t y (file_too_long long2 c d) = absurd (omega (arith, within, long2))
only_schedule_too_long laws schedules bytes script s x within long a b t y (schedule_too_long within2 long2 c d) = (a ∙ sym c, b ∙ sym d)
only_schedule_too_long laws schedules bytes script s x within long a b t y (refused short2 f2 front2 c d) = absurd (omega (arith, long, short2.schedule_is))
only_schedule_too_long laws schedules bytes script s x within long a b t y (bad_schedule short2 m2 n2 spelled2 bad2 c d) = absurd (omega (arith, long, short2.schedule_is))
only_schedule_too_long laws schedules bytes script s x within long a b t y (too_many_steps short2 m2 all2 spelled2 reads2 many2 c d) = absurd (omega (arith, long, short2.schedule_is))
only_schedule_too_long laws schedules bytes script s x within long a b t y (runs short2 m2 all2 spelled2 reads2 few2 c d) = absurd (omega (arith, long, short2.schedule_is))

only_refused : (laws : TextLaws) (schedules : ScheduleLaws) (bytes script : List ℕ) (s : ℕ) (x : List ℕ) → AreShort bytes script → (f : FrontFault) → IsFront bytes (Err f) → s ≡ refusal_status f → x ≡ refusal_text f → (t : ℕ) (y : List ℕ) → RunAnswers bytes script t y → (s ≡ t) × (x ≡ y)
only_refused laws schedules bytes script s x short f front a b t y (file_too_long long2 c d) = absurd (omega (arith, short.module_is, long2))
only_refused laws schedules bytes script s x short f front a b t y (schedule_too_long within2 long2 c d) = absurd (omega (arith, short.schedule_is, long2))
only_refused laws schedules bytes script s x short f front a b t y (refused short2 f2 front2 c d) =
    let same = one_fault laws bytes f f2 front front2 in
    (a ∙ ap refusal_status same ∙ sym c, b ∙ ap refusal_text same ∙ sym d)
only_refused laws schedules bytes script s x short f front a b t y (bad_schedule short2 m2 n2 spelled2 bad2 c d) = absurd (not_both laws bytes m2 f spelled2 front)
only_refused laws schedules bytes script s x short f front a b t y (too_many_steps short2 m2 all2 spelled2 reads2 many2 c d) = absurd (not_both laws bytes m2 f spelled2 front)
only_refused laws schedules bytes script s x short f front a b t y (runs short2 m2 all2 spelled2 reads2 few2 c d) = absurd (not_both laws bytes m2 f spelled2 front)

only_bad_schedule : (laws : TextLaws) (schedules : ScheduleLaws) (bytes script : List ℕ) (s : ℕ) (x : List ℕ) → AreShort bytes script → (m : Module) (n : ℕ) → IsFront bytes (Ok m) → IsFirstBad script n → s ≡ REFUSED → x ≡ bad_schedule_line n → (t : ℕ) (y : List ℕ) → RunAnswers bytes script t y → (s ≡ t) × (x ≡ y)
only_bad_schedule laws schedules bytes script s x short m n spelled bad a b t y (file_too_long long2 c d) = absurd (omega (arith, short.module_is, long2))
only_bad_schedule laws schedules bytes script s x short m n spelled bad a b t y (schedule_too_long within2 long2 c d) = absurd (omega (arith, short.schedule_is, long2))
only_bad_schedule laws schedules bytes script s x short m n spelled bad a b t y (refused short2 f2 front2 c d) = absurd (not_both laws bytes m f2 spelled front2)
only_bad_schedule laws schedules bytes script s x short m n spelled bad a b t y (bad_schedule short2 m2 n2 spelled2 bad2 c d) = (a ∙ sym c, b ∙ ap bad_schedule_line (schedules.one_line script n n2 bad bad2) ∙ sym d)
only_bad_schedule laws schedules bytes script s x short m n spelled bad a b t y (too_many_steps short2 m2 all2 spelled2 reads2 many2 c d) = absurd (schedules.not_both script all2 n reads2 bad)
only_bad_schedule laws schedules bytes script s x short m n spelled bad a b t y (runs short2 m2 all2 spelled2 reads2 few2 c d) = absurd (schedules.not_both script all2 n reads2 bad)

only_too_many_steps : (laws : TextLaws) (schedules : ScheduleLaws) (bytes script : List ℕ) (s : ℕ) (x : List ℕ) → AreShort bytes script → (m : Module) (all : List ScheduleLine) → IsFront bytes (Ok m) → ReadsAs script all → STEP_LIMIT < steps_of all → s ≡ LIMIT → x ≡ limit_line (codes "schedule") → (t : ℕ) (y : List ℕ) → RunAnswers bytes script t y → (s ≡ t) × (x ≡ y)
only_too_many_steps laws schedules bytes script s x short m all spelled reads many a b t y (file_too_long long2 c d) = absurd (omega (arith, short.module_is, long2))
only_too_many_steps laws schedules bytes script s x short m all spelled reads many a b t y (schedule_too_long within2 long2 c d) = absurd (omega (arith, short.schedule_is, long2))
only_too_many_steps laws schedules bytes script s x short m all spelled reads many a b t y (refused short2 f2 front2 c d) = absurd (not_both laws bytes m f2 spelled front2)
only_too_many_steps laws schedules bytes script s x short m all spelled reads many a b t y (bad_schedule short2 m2 n2 spelled2 bad2 c d) = absurd (schedules.not_both script all n2 reads bad2)
only_too_many_steps laws schedules bytes script s x short m all spelled reads many a b t y (too_many_steps short2 m2 all2 spelled2 reads2 many2 c d) = (a ∙ sym c, b ∙ sym d)
only_too_many_steps laws schedules bytes script s x short m all spelled reads many a b t y (runs short2 m2 all2 spelled2 reads2 few2 c d) = absurd (not_both_counts all all2 (schedules.one_schedule script all all2 reads reads2) many few2)

only_runs : (laws : TextLaws) (schedules : ScheduleLaws) (bytes script : List ℕ) (s : ℕ) (x : List ℕ) → AreShort bytes script → (m : Module) (all : List ScheduleLine) → IsFront bytes (Ok m) → ReadsAs script all → steps_of all ≤ STEP_LIMIT → s ≡ run_status m all → x ≡ run_text m all → (t : ℕ) (y : List ℕ) → RunAnswers bytes script t y → (s ≡ t) × (x ≡ y)
only_runs laws schedules bytes script s x short m all spelled reads few a b t y (file_too_long long2 c d) = absurd (omega (arith, short.module_is, long2))
only_runs laws schedules bytes script s x short m all spelled reads few a b t y (schedule_too_long within2 long2 c d) = absurd (omega (arith, short.schedule_is, long2))
only_runs laws schedules bytes script s x short m all spelled reads few a b t y (refused short2 f2 front2 c d) = absurd (not_both laws bytes m f2 spelled front2)
only_runs laws schedules bytes script s x short m all spelled reads few a b t y (bad_schedule short2 m2 n2 spelled2 bad2 c d) = absurd (schedules.not_both script all n2 reads bad2)
only_runs laws schedules bytes script s x short m all spelled reads few a b t y (too_many_steps short2 m2 all2 spelled2 reads2 many2 c d) = absurd (not_both_counts all2 all (schedules.one_schedule script all2 all reads2 reads) many2 few)
only_runs laws schedules bytes script s x short m all spelled reads few a b t y (runs short2 m2 all2 spelled2 reads2 few2 c d) = same_run m m2 all all2 s t x y (one_module laws bytes m m2 spelled spelled2) (schedules.one_schedule script all all2 reads reads2) a b c d

pub one_run_answer : (laws : TextLaws) (schedules : ScheduleLaws) (bytes script : List ℕ) (s t : ℕ) (x y : List ℕ) → RunAnswers bytes script s x → RunAnswers bytes script t y → (s ≡ t) × (x ≡ y)
one_run_answer laws schedules bytes script s t x y (file_too_long long a b) other = only_file_too_long laws schedules bytes script s x long a b t y other
one_run_answer laws schedules bytes script s t x y (schedule_too_long within long a b) other = only_schedule_too_long laws schedules bytes script s x within long a b t y other
one_run_answer laws schedules bytes script s t x y (refused short f front a b) other = only_refused laws schedules bytes script s x short f front a b t y other
one_run_answer laws schedules bytes script s t x y (bad_schedule short m n spelled bad a b) other = only_bad_schedule laws schedules bytes script s x short m n spelled bad a b t y other
one_run_answer laws schedules bytes script s t x y (too_many_steps short m all spelled reads many a b) other = only_too_many_steps laws schedules bytes script s x short m all spelled reads many a b t y other
one_run_answer laws schedules bytes script s t x y (runs short m all spelled reads few a b) other = only_runs laws schedules bytes script s x short m all spelled reads few a b t y other
