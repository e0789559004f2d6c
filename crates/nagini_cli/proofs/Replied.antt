-- What the top call answers, by the reply of `check` and how it is written.
use Rattle.std.proofs.Common.{◌≡◌, ◌≢◌, ◌<◌, ℕ, List, Option, None, Some, IfSome, Result, Ok, Err, IfOk, IsErr, sym, subst, refl, ◌∙◌, ◌⊎◌, inl, inr, arith}
use Rattle.std.specs.Prelude.{IsOkAnd}
use Rattle.std.specs.Io.KnownBytes.{Appends}
use Rattle.io_edge.specs.Outside.{Held, held_at, AppendsPart}
use Rattle.py_base.specs.declared.OutOfMemory.{OutOfMemory}
use Rattle.nagini_cli.specs.declared.reply.Reply.{Reply}
use Rattle.nagini_cli.specs.declared.status.TheConstants.{READ_FAULT, USAGE}
use Rattle.nagini_cli.specs.Allowed.{ChecksFile, RunsFiles, Allowed, usage, check, run, AsksFor}
use Rattle.nagini_cli.specs.Answers.{Answers, IsAnswer}
use Rattle.nagini_cli.specs.Commands.{Command, Check, Run, command_of}
use Rattle.nagini_cli.specs.Replies.{text_of, Says}
use Rattle.nagini_cli.specs.Statuses.{IsQuiet, IsAnswered}
use Rattle.nagini_cli.specs.Texts.{read_fault_line, usage_line}
use Rattle.nagini_cli.proofs.ToldRun.{IsAllowed, files_status}

pub whole_of : (reply : Result Reply OutOfMemory) (words : List (List ℕ)) (held : Option Held) (name : List ℕ) (status : ℕ) (old new : Option (List ℕ)) → command_of words ≡ Some (Check name) → IfOk reply (λ r. ChecksFile held name r.status (text_of r)) → IsOkAnd reply (λ r. (status ≡ r.status) × Appends old new (text_of r)) → (text : List ℕ) × Allowed words held status text × Appends old new text
whole_of (Err fault) words held name status old new is checks said = absurd said
whole_of (Ok r) words held name status old new is checks said = (text_of r, check name is (subst (λ s. ChecksFile held name s (text_of r)) (sym said.0) checks), said.1)

-- what is written of a reply that is cut short; F is promised with a read fault
pub part_of : (F : Type 0) (reply : Result Reply OutOfMemory) (words : List (List ℕ)) (held : Option Held) (name : List ℕ) (old new : Option (List ℕ)) → command_of words ≡ Some (Check name) → IfOk reply (λ r. ChecksFile held name r.status (text_of r)) → IfOk reply (λ r. r.status ≡ READ_FAULT → F) → IfOk reply (λ r. AppendsPart old new (text_of r)) → (IsErr reply → new ≡ old) → (new ≡ old) ⊎ ((status : ℕ) × (text : List ℕ) × Allowed words held status text × AppendsPart old new text × (status ≡ READ_FAULT → F))
part_of F (Ok r) words held name old new is checks fault part nothing = inr (r.status, text_of r, check name is checks, part, fault)
part_of F (Err none) words held name old new is checks fault part nothing = inl (nothing refl)

pub usage_part_of : (F : Type 0) (reply : Result Reply OutOfMemory) (words : List (List ℕ)) (held : Option Held) (old new : Option (List ℕ)) → command_of words ≡ None → IfOk reply (λ r. Says r USAGE usage_line) → IfOk reply (λ r. AppendsPart old new (text_of r)) → (IsErr reply → new ≡ old) → (new ≡ old) ⊎ ((status : ℕ) × (text : List ℕ) × Allowed words held status text × AppendsPart old new text × (status ≡ READ_FAULT → F))
usage_part_of F (Ok r) words held old new is says part nothing = inr (r.status, text_of r, usage is says.status_is says.text_is, part, λ e. absurd (omega (arith, e, says.status_is)))
usage_part_of F (Err none) words held old new is says part nothing = inl (nothing refl)

pub told_of : (reply : Result Reply OutOfMemory) (words : List (List ℕ)) (held : Option Held) (name bytes : List ℕ) (status : ℕ) (old new : Option (List ℕ)) → command_of words ≡ Some (Check name) → IfOk reply (λ r. r.status ≢ READ_FAULT → IfSome held (λ files. (bytes : List ℕ) → held_at files name ≡ Some bytes → IsAnswer bytes r.status (text_of r))) → IsOkAnd reply (λ r. (status ≡ r.status) × Appends old new (text_of r)) → AsksFor words held bytes → status ≢ READ_FAULT → (text : List ℕ) × IsAnswer bytes status text × Appends old new text
told_of (Err fault) words held name bytes status old new is told said asks no_fault = absurd said
told_of (Ok r) words held name bytes status old new is told said asks no_fault =
    let same : asks.file ≡ name = cc in
    let at : held_at asks.files name ≡ Some bytes = subst (λ file. held_at asks.files file ≡ Some bytes) same asks.holds in
    let is_not : r.status ≢ READ_FAULT = λ e. no_fault (said.0 ∙ e) in
    let answer : IsAnswer bytes r.status (text_of r) = (subst (λ h. IfSome h (λ files. (bytes : List ℕ) → held_at files name ≡ Some bytes → IsAnswer bytes r.status (text_of r))) asks.told (told is_not)) bytes at in
    (text_of r, subst (λ s. IsAnswer bytes s (text_of r)) (sym said.0) answer, said.1)

-- whichever row holds of the bytes is what is answered
pub row_of : (reply : Result Reply OutOfMemory) (words : List (List ℕ)) (held : Option Held) (name : List ℕ) (status : ℕ) (old new : Option (List ℕ)) → command_of words ≡ Some (Check name) → IfOk reply (λ r. r.status ≢ READ_FAULT → IfSome held (λ files. (bytes : List ℕ) → held_at files name ≡ Some bytes → IsAnswer bytes r.status (text_of r))) → (IsQuiet status → IsOkAnd reply (λ r. (status ≡ r.status) × Appends old new (text_of r))) → (bytes : List ℕ) (s : ℕ) (text : List ℕ) → AsksFor words held bytes → IsAnswered status → Answers bytes s text → (status ≡ s) × Appends old new text
row_of reply words held name status old new is told said bytes s text asks is_answered answers =
    let answer = told_of reply words held name bytes status old new is told (said is_answered.0) asks is_answered.1 in
    let same = answer.1.only s text answers in
    (same.0, subst (λ x. Appends old new x) same.1 answer.2)

-- a read fault's reply is its line, and what was promised with it
pub read_fault_of : (A B : Type 0) (reply : Result Reply OutOfMemory) (name : List ℕ) (status : ℕ) (old new : Option (List ℕ)) → IfOk reply (λ r. r.status ≡ READ_FAULT → A × B × (text_of r ≡ read_fault_line name)) → IsOkAnd reply (λ r. (status ≡ r.status) × Appends old new (text_of r)) → status ≡ READ_FAULT → A × B × Appends old new (read_fault_line name)
read_fault_of A B (Err fault) name status old new promised said is = absurd said
read_fault_of A B (Ok r) name status old new promised said is =
    let kept = promised (sym said.0 ∙ is) in
    (kept.0, kept.1, subst (λ text. Appends old new text) kept.2 said.1)

-- words ask for one command at most
apart : (found : Option Command) (file other schedule : List ℕ) → found ≡ Some (Check file) → found ≡ Some (Run other schedule) → ⊥
apart found file other schedule e f = cc

none_apart : (found : Option Command) (file schedule : List ℕ) → found ≡ None → found ≡ Some (Run file schedule) → ⊥
none_apart found file schedule e f = cc

pub not_run : (words : List (List ℕ)) (file : List ℕ) → command_of words ≡ Some (Check file) → (other schedule : List ℕ) → command_of words ≢ Some (Run other schedule)
not_run words file is other schedule e = apart (command_of words) file other schedule is e

pub no_run : (words : List (List ℕ)) → command_of words ≡ None → (file schedule : List ℕ) → command_of words ≢ Some (Run file schedule)
no_run words is file schedule e = none_apart (command_of words) file schedule is e

pub not_check : (words : List (List ℕ)) (other schedule : List ℕ) → command_of words ≡ Some (Run other schedule) → (file : List ℕ) → command_of words ≡ Some (Check file) → ⊥
not_check words other schedule is file e = apart (command_of words) file other schedule e is

pub run_part_of : (F : Type 0) (words : List (List ℕ)) (held : Option Held) (file schedule : List ℕ) (old new : Option (List ℕ)) → command_of words ≡ Some (Run file schedule) → (new ≡ old) ⊎ ((status : ℕ) × (text : List ℕ) × RunsFiles held file schedule status text × AppendsPart old new text × (status ≡ READ_FAULT → F)) → (new ≡ old) ⊎ ((status : ℕ) × (text : List ℕ) × Allowed words held status text × AppendsPart old new text × (status ≡ READ_FAULT → F))
run_part_of F words held file schedule old new is (inl nothing) = inl nothing
run_part_of F words held file schedule old new is (inr (status, text, runs, part, fault)) = inr (status, text, run file schedule is runs, part, fault)

pub not_usage : (held : Option Held) (file schedule : List ℕ) (status : ℕ) (old new : Option (List ℕ)) → IsAllowed held file schedule status old new → status ≡ USAGE → ⊥
not_usage held file schedule status old new allowed is =
    let said = allowed (λ e. omega (arith, is, e), λ e. omega (arith, is, e)) in
    apart_from (files_status held file schedule status said.0 said.1)
  where
    apart_from : (status < 8) ⊎ (status ≡ READ_FAULT) → ⊥
    apart_from (inl below) = omega (arith, is, below)
    apart_from (inr fault) = omega (arith, is, fault)
