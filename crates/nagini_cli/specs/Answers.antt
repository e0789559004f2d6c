-- What `check` may answer to the bytes of a file: a status, and a text before it.
use Rattle.std.specs.Prelude.{◌≡◌, ◌≤◌, ◌<◌, ℕ, List, ◌∷◌, length, Ok, Err, codes}
use Rattle.py_syntax.specs.declared.Module.{Module}
use Rattle.py_syntax.specs.Findings.{Finding}
use Rattle.py_syntax.specs.SmallLocal.{HasNoLocalFault}
use Rattle.py_front.specs.Answers.{IsFront}
use Rattle.py_front.specs.declared.FrontFault.{FrontFault}
use Rattle.nagini_cli.specs.Refusals.{refusal_status, refusal_text}
use Rattle.nagini_cli.specs.Reports.{AreLocalFaults, report_text}
use Rattle.nagini_cli.specs.Texts.{limit_line, accepted_line}
use Rattle.nagini_cli.specs.declared.status.TheConstants.{ACCEPTED, NOT_PROVED, LIMIT}
use Rattle.nagini_cli.specs.declared.check.TheConstants.{FILE_LIMIT}

-- what `check` answers to the bytes of a file
pub data Answers (bytes : List ℕ) (status : ℕ) (text : List ℕ) : Type 0 where
  too_long : FILE_LIMIT < length bytes → status ≡ LIMIT → text ≡ limit_line (codes "file") → Answers bytes status text
  refused : length bytes ≤ FILE_LIMIT → (f : FrontFault) → IsFront bytes (Err f) → status ≡ refusal_status f → text ≡ refusal_text f → Answers bytes status text
  accepted : length bytes ≤ FILE_LIMIT → (m : Module) → IsFront bytes (Ok m) → HasNoLocalFault m → status ≡ ACCEPTED → text ≡ accepted_line (length m.methods) → Answers bytes status text
  not_proved : length bytes ≤ FILE_LIMIT → (m : Module) (f : Finding) (faults : List Finding) → IsFront bytes (Ok m) → AreLocalFaults m (f ∷ faults) → status ≡ NOT_PROVED → text ≡ report_text m (f ∷ faults) → Answers bytes status text

-- the one answer that there is to the bytes
pub record IsAnswer (bytes : List ℕ) (status : ℕ) (text : List ℕ) : Type 0 where
  pub answers : Answers bytes status text
  pub only : (s : ℕ) (t : List ℕ) → Answers bytes s t → (status ≡ s) × (text ≡ t)
