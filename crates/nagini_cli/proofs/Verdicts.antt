-- What the answers say of the module by their statuses.
use Rattle.std.proofs.Common.{◌≡◌, ◌≤◌, ◌<◌, ◌⊎◌, ℕ, List, ◌∷◌, length, Option, Ok, Err, sym, subst, refl, ◌∙◌, inl, inr, arith}
use Rattle.std.specs.Prelude.{◌↔◌}
use Rattle.std.specs.Io.KnownBytes.{Appends}
use Rattle.std.proofs.lemmas.Bool.{cases_lt}
use Rattle.py_syntax.specs.declared.Module.{Module}
use Rattle.py_syntax.specs.Findings.{Finding}
use Rattle.py_syntax.specs.SmallForms.{IsSmallModule}
use Rattle.py_syntax.specs.SmallLocal.{HasNoLocalFault}
use Rattle.py_front.specs.Answers.{IsFront}
use Rattle.py_front.specs.declared.FrontFault.{FrontFault}
use Rattle.machine_model.specs.Safe.{Safe}
use Rattle.nagini_cli.specs.Answers.{Answers, too_long, refused, accepted, not_proved, IsAnswer}
use Rattle.nagini_cli.specs.Refusals.{refusal_status}
use Rattle.nagini_cli.specs.Reports.{AreLocalFaults, report_text}
use Rattle.nagini_cli.specs.declared.status.TheConstants.{ACCEPTED, NOT_PROVED, REFUSED, LIMIT}
use Rattle.nagini_cli.specs.declared.check.TheConstants.{FILE_LIMIT}
use Rattle.nagini_cli.proofs.Answered.{refusal_above}

no_refusal : (f : FrontFault) (status : ℕ) → status ≡ refusal_status f → status ≤ 1 → ⊥
no_refusal f status is low = apart status (refusal_status f) is low (refusal_above f)
  where
    apart : (n k : ℕ) → n ≡ k → n ≤ 1 → 1 < k → ⊥
    apart n k e low high = omega arith

pub accepted_of : ((text : List ℕ) (m : Module) → IsFront text (Ok m) → IsSmallModule m) → ((m : Module) → IsSmallModule m → HasNoLocalFault m → (list : List ℕ) → Safe m list) → (bytes : List ℕ) (status : ℕ) (text : List ℕ) → status ≡ ACCEPTED → Answers bytes status text → (m : Module) × IsFront bytes (Ok m) × HasNoLocalFault m × ((list : List ℕ) → Safe m list)
accepted_of shape law bytes status text is (too_long long s t) = absurd (omega (arith, is, s))
accepted_of shape law bytes status text is (refused within f front s t) = absurd (no_refusal f status s (omega (arith, is)))
accepted_of shape law bytes status text is (accepted within m spelled none s t) = (m, spelled, none, law m (shape bytes m spelled) none)
accepted_of shape law bytes status text is (not_proved within m f faults spelled are s t) = absurd (omega (arith, is, s))

pub not_proved_of : (old new : Option (List ℕ)) (bytes : List ℕ) (status : ℕ) (text : List ℕ) → status ≡ NOT_PROVED → Answers bytes status text → Appends old new text → (m : Module) × (f : Finding) × (faults : List Finding) × IsFront bytes (Ok m) × AreLocalFaults m (f ∷ faults) × Appends old new (report_text m (f ∷ faults))
not_proved_of old new bytes status text is (too_long long s t) written = absurd (omega (arith, is, s))
not_proved_of old new bytes status text is (refused within f front s t) written = absurd (no_refusal f status s (omega (arith, is)))
not_proved_of old new bytes status text is (accepted within m spelled none s t) written = absurd (omega (arith, is, s))
not_proved_of old new bytes status text is (not_proved within m f faults spelled are s t) written = (m, f, faults, spelled, are, subst (λ x. Appends old new x) t written)

pub refused_of : (bytes : List ℕ) (status : ℕ) (text : List ℕ) → status ≡ REFUSED → Answers bytes status text → (f : FrontFault) × IsFront bytes (Err f) × (refusal_status f ≡ REFUSED)
refused_of bytes status text is (too_long long s t) = absurd (omega (arith, is, s))
refused_of bytes status text is (refused within f front s t) = (f, front, sym s ∙ is)
refused_of bytes status text is (accepted within m spelled none s t) = absurd (omega (arith, is, s))
refused_of bytes status text is (not_proved within m f faults spelled are s t) = absurd (omega (arith, is, s))

-- a limit is passed by the file, or by what the front finds
abbrev pub PassesLimit : List ℕ → Type 0
PassesLimit bytes = (FILE_LIMIT < length bytes) ⊎ ((f : FrontFault) × IsFront bytes (Err f) × (refusal_status f ≡ LIMIT))

passes : (bytes : List ℕ) (status : ℕ) (text : List ℕ) → Answers bytes status text → status ≡ LIMIT → PassesLimit bytes
passes bytes status text (too_long long s t) is = inl long
passes bytes status text (refused within f front s t) is = inr (f, front, sym s ∙ is)
passes bytes status text (accepted within m spelled none s t) is = absurd (omega (arith, is, s))
passes bytes status text (not_proved within m f faults spelled are s t) is = absurd (omega (arith, is, s))

has_limit : (bytes : List ℕ) (status : ℕ) (text : List ℕ) → IsAnswer bytes status text → PassesLimit bytes → status ≡ LIMIT
has_limit bytes status text answer (inl long) = (answer.only LIMIT _ (too_long long refl refl)).0
has_limit bytes status text answer (inr (f, front, is)) = elim (cases_lt FILE_LIMIT (length bytes)) as (λ _. status ≡ LIMIT) [ inl long ↦ (answer.only LIMIT _ (too_long long refl refl)).0 | inr within ↦ (answer.only (refusal_status f) _ (refused within f front refl refl)).0 ∙ is ]

pub limit_of : (bytes : List ℕ) (status : ℕ) (text : List ℕ) → IsAnswer bytes status text → (status ≡ LIMIT) ↔ PassesLimit bytes
limit_of bytes status text answer = (passes bytes status text answer.answers, has_limit bytes status text answer)
