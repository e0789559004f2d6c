-- What the front says of the bytes of a file, and the answer to them.
use Rattle.std.proofs.Common.{◌≡◌, ℕ, ◌<◌, ◌≤◌, List, [], length, Option, None, Some, Result, Ok, Err, IfOk, IsErr, sym, ◌∙◌, arith}
use Rattle.py_base.specs.declared.OutOfMemory.{OutOfMemory}
use Rattle.py_base.specs.declared.Place.{Place}
use Rattle.py_syntax.specs.declared.Module.{Module}
use Rattle.py_syntax.specs.SmallForms.{IsSmallModule}
use Rattle.py_front.specs.Answers.{IsFront}
use Rattle.small_module.specs.Spelled.{IsMainAlone}
use Rattle.py_front.specs.declared.FrontFault.{FrontFault}
use Rattle.py_front.specs.declared.FrontFault.TheVariants as faults
use Rattle.nagini_cli.specs.Answers.{Answers, refused, accepted, not_proved, IsAnswer}
use Rattle.nagini_cli.specs.Refusals.{refusal_status, refusal_text}
use Rattle.nagini_cli.specs.Replies.{Says, text_of}
use Rattle.nagini_cli.specs.SmallRun.{first_false, IsVerdict}
use Rattle.nagini_cli.specs.declared.reply.Reply.{Reply}
use Rattle.nagini_cli.specs.declared.status.TheConstants.{READ_FAULT}
use Rattle.nagini_cli.specs.declared.check.TheConstants.{FILE_LIMIT}
use Rattle.nagini_cli.proofs.Faults.{finding_at, none_of, one_of, accepted_text, fault_text}

-- what the definition of the front's answers says of each text
pub record TextLaws : Type 0 where
  pub one : (text : List ℕ) (a b : Result Module FrontFault) → IsFront text a → IsFront text b → a ≡ b
  pub shape : (text : List ℕ) (m : Module) → IsFront text (Ok m) → IsSmallModule m

-- a module and a fault as the front gives them
abbrev given : Module → Result Module FrontFault
given m = Ok m

abbrev failed : FrontFault → Result Module FrontFault
failed f = Err f

abbrev replied : Reply → Result Reply OutOfMemory
replied r = Ok r

same_ok : (m n : Module) → given m ≡ given n → m ≡ n
same_ok m n e = cc

same_err : (f g : FrontFault) → failed f ≡ failed g → f ≡ g
same_err f g e = cc

ok_or_err : (m : Module) (f : FrontFault) → given m ≡ failed f → ⊥
ok_or_err m f e = cc

pub one_module : TextLaws → (text : List ℕ) (m n : Module) → IsFront text (Ok m) → IsFront text (Ok n) → m ≡ n
one_module laws text m n a b = same_ok m n (laws.one text (Ok m) (Ok n) a b)

pub one_fault : TextLaws → (text : List ℕ) (f g : FrontFault) → IsFront text (Err f) → IsFront text (Err g) → f ≡ g
one_fault laws text f g a b = same_err f g (laws.one text (Err f) (Err g) a b)

pub not_both : TextLaws → (text : List ℕ) (m : Module) (f : FrontFault) → IsFront text (Ok m) → IsFront text (Err f) → ⊥
not_both laws text m f a b = ok_or_err m f (laws.one text (Ok m) (Err f) a b)

-- the statuses of refusals are among the first
pub refusal_below : (f : FrontFault) → refusal_status f < 8
refusal_below faults.LineTooLong = omega arith
refusal_below faults.TooManyStatements = omega arith
refusal_below faults.TooManyMethods = omega arith
refusal_below f = omega arith

pub refusal_above : (f : FrontFault) → 1 < refusal_status f
refusal_above faults.LineTooLong = omega arith
refusal_above faults.TooManyStatements = omega arith
refusal_above faults.TooManyMethods = omega arith
refusal_above f = omega arith

pub no_read_fault : (f : FrontFault) (status : ℕ) → status ≡ refusal_status f → status ≡ READ_FAULT → ⊥
no_read_fault f status is fault = apart (refusal_status f) (refusal_below f) (sym is ∙ fault)
  where
    apart : (n : ℕ) → n < 8 → n ≡ READ_FAULT → ⊥
    apart n below e = omega arith

pub answers_verdict : (bytes : List ℕ) (m : Module) (place : Option Place) (status : ℕ) (text : List ℕ) → length bytes ≤ FILE_LIMIT → IsFront bytes (Ok m) → IsSmallModule m → IsMainAlone m → first_false m ≡ place → IsVerdict place status text → Answers bytes status text
answers_verdict bytes m None status text within spelled small alone is v = accepted within m spelled (none_of m small is) v.0 (v.1 ∙ sym (accepted_text m alone))
answers_verdict bytes m (Some place) status text within spelled small alone is v = not_proved within m (finding_at place) [] spelled (one_of m small place is) v.0 (v.1 ∙ sym (fault_text m place alone))

-- the law that there is one answer
abbrev pub OneAnswer : Type 0
OneAnswer = (bytes : List ℕ) (s t : ℕ) (x y : List ℕ) → Answers bytes s x → Answers bytes t y → (s ≡ t) × (x ≡ y)

pub the_answer : OneAnswer → (bytes : List ℕ) (status : ℕ) (text : List ℕ) → Answers bytes status text → IsAnswer bytes status text
the_answer law bytes status text answers = record { answers = answers; only = λ t y other. law bytes status t text y answers other }

no_reply : (r : Reply) → IsErr (replied r) → ⊥
no_reply r e = cc

-- a reply is there only where memory wasn't missing, and then the front's answer is the fault
pub is_refused : (bytes : List ℕ) (f : FrontFault) → (¬ (failed f ≡ failed faults.OutOfMemory) → IsFront bytes (Err f)) → ¬ (f ≡ faults.OutOfMemory) → IsFront bytes (Err f)
is_refused bytes f front memory = front (λ e. memory (same_err f faults.OutOfMemory e))

pub IsAnswer-refused : OneAnswer → (bytes : List ℕ) (f : FrontFault) (reply : Result Reply OutOfMemory) → length bytes ≤ FILE_LIMIT → (¬ (failed f ≡ failed faults.OutOfMemory) → IsFront bytes (Err f)) → IfOk reply (λ r. Says r (refusal_status f) (refusal_text f)) → (f ≡ faults.OutOfMemory → IsErr reply) → IfOk reply (λ r. IsAnswer bytes r.status (text_of r))
IsAnswer-refused law bytes f (Ok r) within front says no_memory = the_answer law bytes r.status (text_of r) (refused within f (is_refused bytes f front (λ e. no_reply r (no_memory e))) says.status_is says.text_is)
IsAnswer-refused law bytes f (Err e) within front says no_memory = tt

-- a module is no want of memory
pub is_module : (bytes : List ℕ) (m : Module) → (¬ (given m ≡ failed faults.OutOfMemory) → IsFront bytes (Ok m)) → IsFront bytes (Ok m)
is_module bytes m front = front (λ e. ok_or_err m faults.OutOfMemory e)
