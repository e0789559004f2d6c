-- There is one answer at most to the bytes of each file, since the front has one at most.
use Rattle.std.proofs.Common.{◌≡◌, ℕ, ◌≤◌, ◌<◌, List, [], ◌∷◌, length, Some, Ok, Err, sym, ap, subst, ◌∙◌, arith}
use Rattle.std.specs.Prelude.{codes}
use Rattle.std.proofs.lemmas.List.Elements.{All-head}
use Rattle.py_base.specs.declared.Place.{Place}
use Rattle.py_syntax.specs.declared.Module.{Module}
use Rattle.py_syntax.specs.Findings.{Finding}
use Rattle.py_syntax.specs.SmallForms.{IsSmallModule}
use Rattle.py_syntax.specs.SmallLocal.{IsLocalFault, HasNoLocalFault}
use Rattle.py_front.specs.Answers.{IsFront}
use Rattle.py_front.specs.declared.FrontFault.{FrontFault}
use Rattle.nagini_cli.specs.Answers.{Answers, too_long, refused, accepted, not_proved}
use Rattle.nagini_cli.specs.Refusals.{refusal_status, refusal_text}
use Rattle.nagini_cli.specs.Reports.{AreLocalFaults, report_text}
use Rattle.nagini_cli.specs.Texts.{limit_line, accepted_line}
use Rattle.nagini_cli.specs.declared.status.TheConstants.{ACCEPTED, NOT_PROVED, LIMIT}
use Rattle.nagini_cli.specs.declared.check.TheConstants.{FILE_LIMIT}
use Rattle.nagini_cli.proofs.Answered.{TextLaws, one_module, one_fault, not_both}
use Rattle.nagini_cli.proofs.Faults.{finding_at, first_some}

-- a module has one report
same_report : (m : Module) (f g : Finding) (fs gs : List Finding) → IsSmallModule m → AreLocalFaults m (f ∷ fs) → AreLocalFaults m (g ∷ gs) → (f ∷ fs) ≡ (g ∷ gs)
same_report m f g fs gs small are others =
    let a = first_some m small f fs are in
    let b = first_some m small g gs others in
    a.1 ∙ ap (λ (p : Place). finding_at p ∷ []) (some_is f.place g.place (sym a.0 ∙ b.0)) ∙ sym b.1
  where
    some_is : (p q : Place) → Some p ≡ Some q → p ≡ q
    some_is p q e = cc

-- a report has a local fault
has_fault : (m : Module) (f : Finding) (fs : List Finding) → HasNoLocalFault m → AreLocalFaults m (f ∷ fs) → ⊥
has_fault m f fs none are = none f (All-head (IsLocalFault m) f fs are.only_faults)

only_too_long : (bytes : List ℕ) (s : ℕ) (x : List ℕ) → FILE_LIMIT < length bytes → s ≡ LIMIT → x ≡ limit_line (codes "file") → (t : ℕ) (y : List ℕ) → Answers bytes t y → (s ≡ t) × (x ≡ y)
only_too_long bytes s x long a b t y (too_long again c d) = (a ∙ sym c, b ∙ sym d)
only_too_long bytes s x long a b t y (refused within f front c d) = absurd (omega (arith, long, within))
only_too_long bytes s x long a b t y (accepted within m spelled none c d) = absurd (omega (arith, long, within))
only_too_long bytes s x long a b t y (not_proved within m f fs spelled are c d) = absurd (omega (arith, long, within))

only_refused : TextLaws → (bytes : List ℕ) (s : ℕ) (x : List ℕ) → length bytes ≤ FILE_LIMIT → (f : FrontFault) → IsFront bytes (Err f) → s ≡ refusal_status f → x ≡ refusal_text f → (t : ℕ) (y : List ℕ) → Answers bytes t y → (s ≡ t) × (x ≡ y)
only_refused laws bytes s x within f front a b t y (too_long long c d) = absurd (omega (arith, long, within))
only_refused laws bytes s x within f front a b t y (refused _ g other c d) =
    let same = one_fault laws bytes f g front other in
    (a ∙ ap refusal_status same ∙ sym c, b ∙ ap refusal_text same ∙ sym d)
only_refused laws bytes s x within f front a b t y (accepted _ m spelled none c d) = absurd (not_both laws bytes m f spelled front)
only_refused laws bytes s x within f front a b t y (not_proved _ m g gs spelled are c d) = absurd (not_both laws bytes m f spelled front)

only_accepted : TextLaws → (bytes : List ℕ) (s : ℕ) (x : List ℕ) → length bytes ≤ FILE_LIMIT → (m : Module) → IsFront bytes (Ok m) → HasNoLocalFault m → s ≡ ACCEPTED → x ≡ accepted_line (length m.methods) → (t : ℕ) (y : List ℕ) → Answers bytes t y → (s ≡ t) × (x ≡ y)
only_accepted laws bytes s x within m spelled none a b t y (too_long long c d) = absurd (omega (arith, long, within))
only_accepted laws bytes s x within m spelled none a b t y (refused _ f front c d) = absurd (not_both laws bytes m f spelled front)
only_accepted laws bytes s x within m spelled none a b t y (accepted _ n other none2 c d) = (a ∙ sym c, b ∙ ap (λ (k : Module). accepted_line (length k.methods)) (one_module laws bytes m n spelled other) ∙ sym d)
only_accepted laws bytes s x within m spelled none a b t y (not_proved _ n f fs other are c d) = absurd (has_fault n f fs (subst (λ (k : Module). HasNoLocalFault k) (one_module laws bytes m n spelled other) none) are)

only_not_proved : TextLaws → (bytes : List ℕ) (s : ℕ) (x : List ℕ) → length bytes ≤ FILE_LIMIT → (m : Module) (f : Finding) (fs : List Finding) → IsFront bytes (Ok m) → AreLocalFaults m (f ∷ fs) → s ≡ NOT_PROVED → x ≡ report_text m (f ∷ fs) → (t : ℕ) (y : List ℕ) → Answers bytes t y → (s ≡ t) × (x ≡ y)
only_not_proved laws bytes s x within m f fs spelled are a b t y (too_long long c d) = absurd (omega (arith, long, within))
only_not_proved laws bytes s x within m f fs spelled are a b t y (refused _ g front c d) = absurd (not_both laws bytes m g spelled front)
only_not_proved laws bytes s x within m f fs spelled are a b t y (accepted _ n other none c d) = absurd (has_fault m f fs (subst (λ (k : Module). HasNoLocalFault k) (sym (one_module laws bytes m n spelled other)) none) are)
only_not_proved laws bytes s x within m f fs spelled are a b t y (not_proved _ n g gs other others c d) =
    let same = one_module laws bytes m n spelled other in
    (a ∙ sym c, b ∙ ap (report_text m) (same_report m f g fs gs (laws.shape bytes m spelled) are (subst (λ (k : Module). AreLocalFaults k (g ∷ gs)) (sym same) others)) ∙ ap (λ (k : Module). report_text k (g ∷ gs)) same ∙ sym d)

pub one_answer : TextLaws → (bytes : List ℕ) (s t : ℕ) (x y : List ℕ) → Answers bytes s x → Answers bytes t y → (s ≡ t) × (x ≡ y)
one_answer laws bytes s t x y (too_long long a b) other = only_too_long bytes s x long a b t y other
one_answer laws bytes s t x y (refused within f front a b) other = only_refused laws bytes s x within f front a b t y other
one_answer laws bytes s t x y (accepted within m spelled none a b) other = only_accepted laws bytes s x within m spelled none a b t y other
one_answer laws bytes s t x y (not_proved within m f fs spelled are a b) other = only_not_proved laws bytes s x within m f fs spelled are a b t y other
