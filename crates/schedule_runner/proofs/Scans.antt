-- The lines behind the first all have their form, or some line is the first without it; and what is read of them.
use Rattle.std.proofs.Common.{ℕ, suc, zero, ◌≡◌, ◌≢◌, ◌<◌, ◌≤◌, ◌+◌, List, [], ◌∷◌, ◌++◌, Bool, true, false, cond, Option, Some, None, Result, Ok, Err, refl, sym, ap, subst, ◌∙◌, arith, append_assoc, append-nil, ◌⊎◌, inl, inr, slice_get}
use Rattle.std.proofs.lemmas.Option.{none-some, same_Some}
use Rattle.schedule_runner.specs.declared.schedule.ScheduleLine.{ScheduleLine}
use Rattle.schedule_runner.specs.declared.fault.ScheduleFault.{ScheduleFault}
use Rattle.schedule_runner.specs.declared.fault.ScheduleFault.TheVariants.{BadSchedule}
use Rattle.schedule_runner.specs.ScheduleText.{IsLine, LinesSay, with_line}
use Rattle.schedule_runner.specs.Reading.{is_silent, line_of, scan}
use Rattle.schedule_runner.proofs.Forms.{line_is, line_found, silent_is, silent_found, says_is_loud}

abbrev pub Answer : Type 0
Answer = Result (List ScheduleLine) ScheduleFault

-- line i of these isn't of the form
abbrev pub IsFormless : List (List ℕ) → ℕ → Type 0
IsFormless lines i = (line : List ℕ) × (slice_get lines i ≡ Some line) × ((says : Option ScheduleLine) → ¬ IsLine line says)

-- and it is the first
pub record IsFirstFormless (lines : List (List ℕ)) (i : ℕ) : Type 0 where
  pub formless : IsFormless lines i
  pub first : (j : ℕ) → j < i → ¬ IsFormless lines j

abbrev after_line : ℕ → List ScheduleLine → List (List ℕ) → Option ScheduleLine → Answer
after_line n said more None = Err (BadSchedule n)
after_line n said more (Some says) = scan (n + 1) (said ++ says ∷ []) more

scan_is : (n : ℕ) (said : List ScheduleLine) (line : List ℕ) (more : List (List ℕ)) → scan n said (line ∷ more) ≡ cond (is_silent line) (scan (n + 1) said more) (after_line n said more (line_of line))
scan_is n said line more = ap (cond (is_silent line) (scan (n + 1) said more)) (by (line_of line)) where
  by : (o : Option ScheduleLine) → (elim o as (λ _. Answer) [ None ↦ Err (BadSchedule n) | Some says ↦ scan (n + 1) (said ++ says ∷ []) more ]) ≡ after_line n said more o
  by None = refl
  by (Some says) = refl

scan_silent : (n : ℕ) (said : List ScheduleLine) (line : List ℕ) (more : List (List ℕ)) → IsLine line None → scan n said (line ∷ more) ≡ scan (n + 1) said more
scan_silent n said line more is = scan_is n said line more ∙ ap (λ t. cond t (scan (n + 1) said more) (after_line n said more (line_of line))) (silent_is line is)

scan_says : (n : ℕ) (said : List ScheduleLine) (line : List ℕ) (more : List (List ℕ)) (says : ScheduleLine) → IsLine line (Some says) → scan n said (line ∷ more) ≡ scan (n + 1) (said ++ says ∷ []) more
scan_says n said line more says is = scan_is n said line more ∙ ap (λ t. cond t (scan (n + 1) said more) (after_line n said more (line_of line))) (says_is_loud line says is) ∙ ap (after_line n said more) (line_is line says is)

-- a line has its form, or none
has_form : (line : List ℕ) → ((says : Option ScheduleLine) × IsLine line says) ⊎ ((is_silent line ≡ false) × (line_of line ≡ None) × ((says : Option ScheduleLine) → ¬ IsLine line says))
has_form line = by (is_silent line) (line_of line) refl refl where
  by : (b : Bool) (o : Option ScheduleLine) → is_silent line ≡ b → line_of line ≡ o → ((says : Option ScheduleLine) × IsLine line says) ⊎ ((is_silent line ≡ false) × (line_of line ≡ None) × ((says : Option ScheduleLine) → ¬ IsLine line says))
  by true o silent is = inl (None, silent_found line silent)
  by false (Some says) silent is = inl (Some says, line_found line says is)
  by false None silent is = inr (silent, is, none) where
    none : (says : Option ScheduleLine) → ¬ IsLine line says
    none None l = let e : ◌≡◌ {A = Bool} true false = sym (silent_is line l) ∙ silent in cc
    none (Some says) l = none-some says (sym is ∙ line_is line says l)

scan_formless : (n : ℕ) (said : List ScheduleLine) (line : List ℕ) (more : List (List ℕ)) → ((says : Option ScheduleLine) → ¬ IsLine line says) → scan n said (line ∷ more) ≡ Err (BadSchedule n)
scan_formless n said line more never = elim (has_form line) as (λ _. scan n said (line ∷ more) ≡ Err (BadSchedule n)) [
  | inl form ↦ absurd (never form.0 form.1)
  | inr formless ↦ scan_is n said line more ∙ ap (λ t. cond t (scan (n + 1) said more) (after_line n said more (line_of line))) formless.0 ∙ ap (after_line n said more) formless.1
]

scan_form : (n : ℕ) (said : List ScheduleLine) (line : List ℕ) (more : List (List ℕ)) (says : Option ScheduleLine) → IsLine line says → scan n said (line ∷ more) ≡ scan (n + 1) (said ++ with_line says []) more
scan_form n said line more None is = scan_silent n said line more is ∙ ap (λ s. scan (n + 1) s more) (sym (append-nil said))
scan_form n said line more (Some says) is = scan_says n said line more says is

with_line_in : (says : Option ScheduleLine) (later : List ScheduleLine) → with_line says [] ++ later ≡ with_line says later
with_line_in None later = refl
with_line_in (Some says) later = refl

-- What the lines say is read.
pub said_scan : (lines : List (List ℕ)) (all : List ScheduleLine) → LinesSay lines all → (n : ℕ) (said : List ScheduleLine) → scan n said lines ≡ Ok (said ++ all)
said_scan [] all is n said = ap (λ x. Ok x) (sym (append-nil said) ∙ ap (λ x. said ++ x) (sym is))
said_scan (line ∷ more) all (says, later, is, rest, whole) n said =
    scan_form n said line more says is ∙ said_scan more later rest (n + 1) (said ++ with_line says []) ∙ ap (λ x. Ok x) (append_assoc said (with_line says []) later ∙ ap (λ x. said ++ x) (with_line_in says later ∙ sym whole))

-- The first line without its form is named.
pub formless_scan : (lines : List (List ℕ)) (i : ℕ) → IsFirstFormless lines i → (n : ℕ) (said : List ScheduleLine) → scan n said lines ≡ Err (BadSchedule (n + i))
formless_scan [] i is n said = absurd (none-some _ is.formless.1)
formless_scan (line ∷ more) zero is n said =
    let same : line ≡ is.formless.0 = same_Some line is.formless.0 is.formless.1 in
    scan_formless n said line more (subst (λ l. (says : Option ScheduleLine) → ¬ IsLine l says) (sym same) is.formless.2) ∙ ap (λ k. Err (BadSchedule k)) (omega arith)
formless_scan (line ∷ more) (suc i) is n said = elim (has_form line) as (λ _. scan n said (line ∷ more) ≡ Err (BadSchedule (n + suc i))) [
  | inl form ↦ scan_form n said line more form.0 form.1 ∙ formless_scan more i (record { formless = is.formless; first = λ j h. is.first (suc j) (omega (arith, h)) }) (n + 1) (said ++ with_line form.0 []) ∙ ap (λ k. Err (BadSchedule k)) (omega arith)
  | inr formless ↦ absurd (is.first 0 (omega arith) (line, refl, formless.2))
]

-- All of the lines have their form, or one is the first without it.
pub said_or_formless : (lines : List (List ℕ)) → ((all : List ScheduleLine) × LinesSay lines all) ⊎ ((i : ℕ) × IsFirstFormless lines i)
said_or_formless [] = inl ([], refl)
said_or_formless (line ∷ more) = by (has_form line) (said_or_formless more) where
  by : ((says : Option ScheduleLine) × IsLine line says) ⊎ ((is_silent line ≡ false) × (line_of line ≡ None) × ((says : Option ScheduleLine) → ¬ IsLine line says)) → ((all : List ScheduleLine) × LinesSay more all) ⊎ ((i : ℕ) × IsFirstFormless more i) → ((all : List ScheduleLine) × LinesSay (line ∷ more) all) ⊎ ((i : ℕ) × IsFirstFormless (line ∷ more) i)
  by (inl form) (inl rest) = inl (with_line form.0 rest.0, (form.0, rest.0, form.1, rest.1, refl))
  by (inl form) (inr stop) = inr (suc stop.0, record { formless = stop.1.formless; first = first }) where
    first : (j : ℕ) → j < suc stop.0 → ¬ IsFormless (line ∷ more) j
    first zero h bad = bad.2 form.0 (subst (λ l. IsLine l form.0) (same_Some line bad.0 bad.1) form.1)
    first (suc j) h bad = stop.1.first j (omega (arith, h)) bad
  by (inr formless) rest = inr (0, record { formless = (line, refl, formless.2); first = λ j h. absurd (omega (arith, h)) })
