-- Laws of combinations.
use Rattle.std.specs.Prelude.{◌≡◌, ℕ, zero, suc, ℤ, pos, ◌≤ℤ◌, List, [], ◌∷◌, ◌++◌, Option, Some, ◌⊎◌, map, slice_get, All}
use Rattle.std.proofs.Common.{sym, subst, inl, inr, append_assoc, append-nil}
use Rattle.std.proofs.lemmas.List.Elements.{All-head, All-tail}
use Rattle.lin_rows.specs.declared.row.Row.{Row}
use Rattle.lin_rows.specs.declared.step.ComboStep.{ComboStep}
use Rattle.lin_rows.specs.Rows.{Meets}
use Rattle.lin_rows.specs.Steps.{all_rows, StepHolds, StepsHold, IsCombination, AreMet}
use Rattle.lin_rows.specs.Ring.{≤ℤ-from_<ℤ}
use Rattle.lin_rows.specs.RowLaws.{meets-sum, false_row}

pub get-push : {X : Type 0} (xs : List X) (y z : X) (i : ℕ) → slice_get (xs ++ y ∷ []) i ≡ Some z → (slice_get xs i ≡ Some z) ⊎ (y ≡ z)
get-push [] y z zero e = inr (cc)
get-push [] y z (suc i) e = absurd (cc)
get-push (x ∷ xs) y z zero e = inl e
get-push (x ∷ xs) y z (suc i) e = get-push xs y z i e

met-push : (q : ℤ) (x : ℕ → ℤ) (rows : List (Option Row)) (r : Row) → AreMet q x rows → Meets q x r → AreMet q x (rows ++ Some r ∷ [])
met-push q x rows r met one i s e = elim (get-push rows (Some r) (Some s) i e) [
  | inl f ↦ met i s f
  | inr f ↦ let same : r ≡ s = cc in subst (Meets q x) same one
]

met_step : (q : ℤ) (x : ℕ → ℤ) (lower : List (Option Row)) (s : ComboStep) → AreMet q x lower → StepHolds lower s → Meets q x s.row
met_step q x lower s met h =
    meets-sum q s.by_left s.by_right x h.left h.right s.row (≤ℤ-from_<ℤ s.by_left h.by_left) h.by_right h.sum (met s.left h.left h.at_left) (met s.right h.right h.at_right)

-- the row of the last step is met where the rows handed in are
pub met_last : (q : ℤ) (x : ℕ → ℤ) (lower : List (Option Row)) (first : List ComboStep) (last : ComboStep) → AreMet q x lower → StepsHold lower (first ++ last ∷ []) → Meets q x last.row
met_last q x lower [] last met h = met_step q x lower last met h.0
met_last q x lower (s ∷ ss) last met h =
    met_last q x (lower ++ Some s.row ∷ []) ss last (met-push q x lower s.row met (met_step q x lower s met h.0)) h.1

-- the rows of a combination aren't met together (Farkas)
pub refuted : (q : ℤ) (x : ℕ → ℤ) (rows : List (Option Row)) (steps : List ComboStep) → IsCombination rows steps → pos 1 ≤ℤ q → AreMet q x rows → ⊥
refuted q x rows steps h positive met =
    let (first, last, is, false_) = h.ends_false in
    false_row q x last.row positive false_ (met_last q x rows first last met (subst (StepsHold rows) is h.steps_hold))

-- rows that all have numbers
pub met-rows : (q : ℤ) (x : ℕ → ℤ) (rows : List Row) → All (Meets q x) rows → AreMet q x (map Some rows)
met-rows q x [] met i s e = absurd (cc)
met-rows q x (r ∷ rows) met zero s e =
    let same : r ≡ s = cc in
    subst (Meets q x) same (All-head (Meets q x) r rows met)
met-rows q x (r ∷ rows) met (suc i) s e =
    met-rows q x rows (All-tail (Meets q x) r rows met) i s e

-- one step more, over all rows before it
pub steps-push : (lower : List (Option Row)) (ss : List ComboStep) (s : ComboStep) → StepsHold lower ss → StepHolds (all_rows lower ss) s → StepsHold lower (ss ++ s ∷ [])
steps-push lower [] s h k = (subst (λ rows. StepHolds rows s) (append-nil lower) k, tt)
steps-push lower (x ∷ xs) s h k =
    (h.0, steps-push (lower ++ Some x.row ∷ []) xs s h.1 (subst (λ rows. StepHolds rows s) (sym (append_assoc lower (Some x.row ∷ []) (map (λ z. Some z.row) xs))) k))
