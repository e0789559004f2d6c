-- What the answer to a run says, where the files are told.
use Rattle.std.proofs.Common.{◌≡◌, ◌≢◌, ℕ, ◌≤◌, ◌<◌, List, length, Option, None, Some, Ok, subst, refl, ◌⊎◌, inl, inr, arith}
use Rattle.std.specs.Prelude.{codes}
use Rattle.std.specs.Io.KnownBytes.{Appends}
use Rattle.io_edge.specs.Outside.{Held, held_at}
use Rattle.py_syntax.specs.declared.Module.{Module}
use Rattle.py_front.specs.Answers.{IsFront}
use Rattle.py_front.specs.declared.FrontFault.{FrontFault}
use Rattle.py_front.specs.declared.FrontFault.TheVariants as faults
use Rattle.schedule_runner.specs.declared.schedule.ScheduleLine.{ScheduleLine}
use Rattle.schedule_runner.specs.declared.ending.RunEnd.{RunEnd}
use Rattle.schedule_runner.specs.declared.ending.RunEnd.TheVariants as ending
use Rattle.schedule_runner.specs.ScheduleText.{ReadsAs}
use Rattle.nagini_cli.specs.Allowed.{RunsFiles, file_fault, schedule_fault, long_file, both_read, AsksToRun}
use Rattle.nagini_cli.specs.Commands.{Run, command_of}
use Rattle.nagini_cli.specs.RunAnswers.{RunAnswers, file_too_long, schedule_too_long, refused, bad_schedule, too_many_steps, runs, IsRunAnswer, status_of, run_of, run_status, run_text}
use Rattle.nagini_cli.specs.Refusals.{refusal_status}
use Rattle.nagini_cli.specs.RunTold.{ReadsInOrder, RunIsTold}
use Rattle.nagini_cli.specs.Statuses.{IsQuiet, IsAnswered, IsEnd}
use Rattle.nagini_cli.specs.Texts.{limit_line, read_fault_line}
use Rattle.nagini_cli.specs.declared.status.TheConstants.{READ_FAULT, REFUSED, LIMIT}
use Rattle.nagini_cli.specs.declared.check.TheConstants.{FILE_LIMIT}
use Rattle.nagini_cli.proofs.Answered.{refusal_below}

end_below : (e : RunEnd) → status_of e < 7
end_below ending.Finished = omega arith
end_below (ending.Stopped kind place thread) = omega arith
end_below (ending.Stuck threads) = omega arith
end_below (ending.Spent threads) = omega arith
end_below (ending.TooLarge place) = omega arith

-- the answers to bytes are among the first statuses
pub answer_below : (bytes script : List ℕ) (s : ℕ) (x : List ℕ) → RunAnswers bytes script s x → s < 8
answer_below bytes script s x (file_too_long long a b) = omega (arith, a)
answer_below bytes script s x (schedule_too_long within long a b) = omega (arith, a)
answer_below bytes script s x (refused short f front a b) = refused_below s (refusal_status f) a (refusal_below f)
  where
    refused_below : (s n : ℕ) → s ≡ n → n < 8 → s < 8
    refused_below s n e h = omega arith
answer_below bytes script s x (bad_schedule short m n spelled bad a b) = omega (arith, a)
answer_below bytes script s x (too_many_steps short m all spelled reads many a b) = omega (arith, a)
answer_below bytes script s x (runs short m all spelled reads few a b) = below s (run_status m all) a (end_below (run_of m all).ends)
  where
    below : (s n : ℕ) → s ≡ n → n < 7 → s < 8
    below s n e h = omega arith

pub no_fault_ends : (m : Module) (all : List ScheduleLine) → run_status m all ≡ READ_FAULT → ⊥
no_fault_ends m all e = apart (run_status m all) (end_below (run_of m all).ends) e
  where
    apart : (n : ℕ) → n < 7 → n ≡ READ_FAULT → ⊥
    apart n below e = omega arith

-- neither want of memory nor a write fault nor usage is answered for files
pub files_status : (held : Option Held) (file schedule : List ℕ) (s : ℕ) (x : List ℕ) → RunsFiles held file schedule s x → (s < 8) ⊎ (s ≡ READ_FAULT)
files_status held file schedule s x (file_fault a b) = inr a
files_status held file schedule s x (schedule_fault bytes holds within a b) = inr a
files_status held file schedule s x (long_file bytes holds long a b) = inl (omega (arith, a))
files_status held file schedule s x (both_read bytes script holds_file holds_schedule answers) = inl (answer_below bytes script s x answers)

pub quiet_of : (s : ℕ) → (s < 8) ⊎ (s ≡ READ_FAULT) → IsQuiet s
quiet_of s (inl below) = (λ e. omega (arith, below, e), λ e. omega (arith, below, e))
quiet_of s (inr is) = (λ e. omega (arith, is, e), λ e. omega (arith, is, e))

-- one name has one content
same_bytes : (found : Option (List ℕ)) (a b : List ℕ) → found ≡ Some a → found ≡ Some b → a ≡ b
same_bytes found a b e f = cc

not_missing : (found : Option (List ℕ)) (a : List ℕ) → found ≡ None → found ≡ Some a → ⊥
not_missing found a e f = cc

answers_in : (files : Held) (file schedule bytes script : List ℕ) (s : ℕ) (x : List ℕ) → held_at files file ≡ Some bytes → held_at files schedule ≡ Some script → s ≢ READ_FAULT → RunsFiles (Some files) file schedule s x → RunAnswers bytes script s x
answers_in files file schedule bytes script s x f g read (file_fault a b) = absurd (read a)
answers_in files file schedule bytes script s x f g read (schedule_fault other holds within a b) = absurd (read a)
answers_in files file schedule bytes script s x f g read (long_file other holds long a b) = file_too_long (subst (λ (l : List ℕ). FILE_LIMIT < length l) (same_bytes (held_at files file) other bytes holds f) long) a b
answers_in files file schedule bytes script s x f g read (both_read other another holds_file holds_schedule answers) =
    subst (λ (l : List ℕ). RunAnswers bytes l s x) (same_bytes (held_at files schedule) another script holds_schedule g)
    (subst (λ (l : List ℕ). RunAnswers l another s x) (same_bytes (held_at files file) other bytes holds_file f) answers)

fault_where_missing : (files : Held) (file schedule : List ℕ) (s : ℕ) (x : List ℕ) → held_at files file ≡ None → RunsFiles (Some files) file schedule s x → (s ≡ READ_FAULT) × (x ≡ read_fault_line file)
fault_where_missing files file schedule s x none (file_fault a b) = (a, b)
fault_where_missing files file schedule s x none (schedule_fault bytes holds within a b) = absurd (not_missing (held_at files file) bytes none holds)
fault_where_missing files file schedule s x none (long_file bytes holds long a b) = absurd (not_missing (held_at files file) bytes none holds)
fault_where_missing files file schedule s x none (both_read bytes script holds_file holds_schedule answers) = absurd (not_missing (held_at files file) bytes none holds_file)

limit_where_long : (files : Held) (file schedule bytes : List ℕ) (s : ℕ) (x : List ℕ) → held_at files file ≡ Some bytes → FILE_LIMIT < length bytes → s ≢ READ_FAULT → RunsFiles (Some files) file schedule s x → (s ≡ LIMIT) × (x ≡ limit_line (codes "file"))
limit_where_long files file schedule bytes s x f long read (file_fault a b) = absurd (read a)
limit_where_long files file schedule bytes s x f long read (schedule_fault other holds within a b) = absurd (read a)
limit_where_long files file schedule bytes s x f long read (long_file other holds longer a b) = (a, b)
limit_where_long files file schedule bytes s x f long read (both_read other script holds_file holds_schedule answers) = of_answer script s x (subst (λ (l : List ℕ). RunAnswers l script s x) (same_bytes (held_at files file) other bytes holds_file f) answers)
  where
    of_answer : (script : List ℕ) (s : ℕ) (x : List ℕ) → RunAnswers bytes script s x → (s ≡ LIMIT) × (x ≡ limit_line (codes "file"))
    of_answer script s x (file_too_long longer a b) = (a, b)
    of_answer script s x (schedule_too_long within longer a b) = absurd (omega (arith, long, within))
    of_answer script s x (refused short f front a b) = absurd (omega (arith, long, short.module_is))
    of_answer script s x (bad_schedule short m n spelled bad a b) = absurd (omega (arith, long, short.module_is))
    of_answer script s x (too_many_steps short m all spelled reads many a b) = absurd (omega (arith, long, short.module_is))
    of_answer script s x (runs short m all spelled reads few a b) = absurd (omega (arith, long, short.module_is))

fault_where_no_schedule : (files : Held) (file schedule : List ℕ) (s : ℕ) (x : List ℕ) → held_at files schedule ≡ None → ((bytes : List ℕ) → held_at files file ≡ Some bytes → length bytes ≤ FILE_LIMIT) → RunsFiles (Some files) file schedule s x → s ≡ READ_FAULT
fault_where_no_schedule files file schedule s x none within (file_fault a b) = a
fault_where_no_schedule files file schedule s x none within (schedule_fault bytes holds short a b) = a
fault_where_no_schedule files file schedule s x none within (long_file bytes holds long a b) = absurd (omega (arith, long, within bytes holds))
fault_where_no_schedule files file schedule s x none within (both_read bytes script holds_file holds_schedule answers) = absurd (not_missing (held_at files schedule) script none holds_schedule)

-- what is known of the answer: its text is allowed for the files, and is written
abbrev pub IsAllowed : Option Held → List ℕ → List ℕ → ℕ → Option (List ℕ) → Option (List ℕ) → Type 0
IsAllowed held file schedule status old new = IsQuiet status → (text : List ℕ) × RunsFiles held file schedule status text × Appends old new text

-- both commands are one
same_file : (words : List (List ℕ)) (a b c d : List ℕ) → command_of words ≡ Some (Run a b) → command_of words ≡ Some (Run c d) → (a ≡ c) × (b ≡ d)
same_file words a b c d e f = by_command (command_of words) e f
  where
    by_command : (found : Option _) → found ≡ Some (Run a b) → found ≡ Some (Run c d) → (a ≡ c) × (b ≡ d)
    by_command found e f = (cc, cc)

pub reads_in_order : (words : List (List ℕ)) (held : Option Held) (file schedule : List ℕ) (status : ℕ) (old new : Option (List ℕ)) → command_of words ≡ Some (Run file schedule) → IsAllowed held file schedule status old new → ReadsInOrder words held status old new
reads_in_order words held file schedule status old new is allowed = record {
  file_not_held = λ f g files command told none quiet.
      let same = same_file words file schedule f g is command in
      let said = allowed quiet in
      let fault = fault_where_missing files f schedule status said.0 none (moved files f told same.0 said.0 said.1) in
      (fault.0, subst (λ (x : List ℕ). Appends old new x) fault.1 said.2);
  file_too_long = λ f g bytes files command told holds long answered.
      let same = same_file words file schedule f g is command in
      let said = allowed answered.0 in
      let limit = limit_where_long files f schedule bytes status said.0 holds long answered.1 (moved files f told same.0 said.0 said.1) in
      (limit.0, subst (λ (x : List ℕ). Appends old new x) limit.1 said.2);
  schedule_not_held = λ f g files command told none quiet within.
      let same = same_file words file schedule f g is command in
      let said = allowed quiet in
      fault_where_no_schedule files f g status said.0 none within (subst (λ (l : List ℕ). RunsFiles (Some files) f l status said.0) same.1 (moved files f told same.0 said.0 said.1));
}
  where
    moved : (files : Held) (f : List ℕ) → held ≡ Some files → file ≡ f → (x : List ℕ) → RunsFiles held file schedule status x → RunsFiles (Some files) f schedule status x
    moved files f told same x answer = subst (λ (l : List ℕ). RunsFiles (Some files) l schedule status x) same (subst (λ (h : Option Held). RunsFiles h file schedule status x) told answer)

-- the law that there is one answer
abbrev pub OneAnswer : Type 0
OneAnswer = (bytes script : List ℕ) (s t : ℕ) (x y : List ℕ) → RunAnswers bytes script s x → RunAnswers bytes script t y → (s ≡ t) × (x ≡ y)

told_of : OneAnswer → (words : List (List ℕ)) (held : Option Held) (file schedule : List ℕ) (status : ℕ) (old new : Option (List ℕ)) → command_of words ≡ Some (Run file schedule) → IsAllowed held file schedule status old new → (bytes script : List ℕ) → AsksToRun words held bytes script → IsAnswered status → (text : List ℕ) × IsRunAnswer bytes script status text × Appends old new text
told_of law words held file schedule status old new is allowed bytes script asks answered =
    let same = same_file words file schedule asks.file asks.schedule is asks.command in
    let said = allowed answered.0 in
    let moved : RunsFiles (Some asks.files) asks.file asks.schedule status said.0 = subst (λ (l : List ℕ). RunsFiles (Some asks.files) asks.file l status said.0) same.1 (subst (λ (l : List ℕ). RunsFiles (Some asks.files) l schedule status said.0) same.0 (subst (λ (h : Option Held). RunsFiles h file schedule status said.0) asks.told said.1)) in
    let answer : RunAnswers bytes script status said.0 = answers_in asks.files asks.file asks.schedule bytes script status said.0 asks.holds_file asks.holds_schedule answered.1 moved in
    (said.0, record { answers = answer; only = λ t y other. law bytes script status t said.0 y answer other }, said.2)

not_an_end : (s : ℕ) → IsEnd s → (s ≢ REFUSED) × (s < 7)
not_an_end s (inl e) = (λ f. omega (arith, e, f), omega (arith, e))
not_an_end s (inr (inl e)) = (λ f. omega (arith, e, f), omega (arith, e))
not_an_end s (inr (inr (inl e))) = (λ f. omega (arith, e, f), omega (arith, e))
not_an_end s (inr (inr (inr e))) = (λ f. omega (arith, e, f), omega (arith, e))

-- no refusal has the status of an end
refusal_no_end : (f : FrontFault) (s : ℕ) → IsEnd s → s ≡ refusal_status f → ⊥
refusal_no_end faults.LineTooLong s is a = omega (arith, a, (not_an_end s is).1)
refusal_no_end faults.TooManyStatements s is a = omega (arith, a, (not_an_end s is).1)
refusal_no_end faults.TooManyMethods s is a = omega (arith, a, (not_an_end s is).1)
refusal_no_end f s is a = (not_an_end s is).0 a

pub answered_end : (s : ℕ) → IsEnd s → IsAnswered s
answered_end s is =
    let below = (not_an_end s is).1 in
    (quiet_of s (inl (omega (arith, below))), λ e. omega (arith, e, below))

played_of : (old new : Option (List ℕ)) (bytes script : List ℕ) (s : ℕ) (x : List ℕ) → IsEnd s → RunAnswers bytes script s x → Appends old new x → (m : Module) × (all : List ScheduleLine) × IsFront bytes (Ok m) × ReadsAs script all × (s ≡ run_status m all) × Appends old new (run_text m all)
played_of old new bytes script s x is (file_too_long long a b) written = absurd (omega (arith, a, (not_an_end s is).1))
played_of old new bytes script s x is (schedule_too_long within long a b) written = absurd (omega (arith, a, (not_an_end s is).1))
played_of old new bytes script s x is (refused short f front a b) written = absurd (refusal_no_end f s is a)
played_of old new bytes script s x is (bad_schedule short m n spelled bad a b) written = absurd ((not_an_end s is).0 a)
played_of old new bytes script s x is (too_many_steps short m all spelled reads many a b) written = absurd (omega (arith, a, (not_an_end s is).1))
played_of old new bytes script s x is (runs short m all spelled reads few a b) written = (m, all, spelled, reads, a, subst (λ (y : List ℕ). Appends old new y) b written)

pub run_is_told : OneAnswer → (words : List (List ℕ)) (held : Option Held) (file schedule : List ℕ) (status : ℕ) (old new : Option (List ℕ)) → command_of words ≡ Some (Run file schedule) → IsAllowed held file schedule status old new → RunIsTold words held status old new
run_is_told law words held file schedule status old new is allowed = record {
  told = told;
  refused = λ bytes script f asks answered short front. row bytes script asks answered _ _ (refused short f front refl refl);
  bad_schedule = λ bytes script m n asks answered short spelled bad. row bytes script asks answered _ _ (bad_schedule short m n spelled bad refl refl);
  too_many_steps = λ bytes script m all asks answered short spelled reads many. row bytes script asks answered _ _ (too_many_steps short m all spelled reads many refl refl);
  plays = λ bytes script m all asks answered short spelled reads few. row bytes script asks answered _ _ (runs short m all spelled reads few refl refl);
  played = λ bytes script asks ends. let said = told bytes script asks (answered_end status ends) in played_of old new bytes script status said.0 ends said.1.answers said.2;
}
  where
    told : (bytes script : List ℕ) → AsksToRun words held bytes script → IsAnswered status → (text : List ℕ) × IsRunAnswer bytes script status text × Appends old new text
    told bytes script asks answered = told_of law words held file schedule status old new is allowed bytes script asks answered

    row : (bytes script : List ℕ) → AsksToRun words held bytes script → IsAnswered status → (s : ℕ) (x : List ℕ) → RunAnswers bytes script s x → (status ≡ s) × Appends old new x
    row bytes script asks answered s x answers =
        let said = told bytes script asks answered in
        let same = said.1.only s x answers in
        (same.0, subst (λ (y : List ℕ). Appends old new y) same.1 said.2)

-- other words ask for no run
pub reads_nothing : (words : List (List ℕ)) (held : Option Held) (status : ℕ) (old new : Option (List ℕ)) → ((file schedule : List ℕ) → command_of words ≢ Some (Run file schedule)) → ReadsInOrder words held status old new
reads_nothing words held status old new other = record {
  file_not_held = λ f g files command. absurd (other f g command);
  file_too_long = λ f g bytes files command. absurd (other f g command);
  schedule_not_held = λ f g files command. absurd (other f g command);
}

pub no_run_is_told : (words : List (List ℕ)) (held : Option Held) (status : ℕ) (old new : Option (List ℕ)) → ((file schedule : List ℕ) → command_of words ≢ Some (Run file schedule)) → RunIsTold words held status old new
no_run_is_told words held status old new other = record {
  told = λ bytes script asks. absurd (other asks.file asks.schedule asks.command);
  refused = λ bytes script f asks. absurd (other asks.file asks.schedule asks.command);
  bad_schedule = λ bytes script m n asks. absurd (other asks.file asks.schedule asks.command);
  too_many_steps = λ bytes script m all asks. absurd (other asks.file asks.schedule asks.command);
  plays = λ bytes script m all asks. absurd (other asks.file asks.schedule asks.command);
  played = λ bytes script asks. absurd (other asks.file asks.schedule asks.command);
}
