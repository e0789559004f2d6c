-- Laws of the least variable.
use Rattle.std.specs.Prelude.{◌≡◌, ◌≢◌, ℕ, ◌≤◌, ◌<◌, ℤ, pos, List, ◌∷◌, refl}
use Rattle.std.proofs.Common.{sym, ap, ◌∙◌, subst, arith}
use Rattle.lin_rows.specs.Terms.{IsAbove, coef_at}
use Rattle.lin_rows.specs.TermLaws.{coef-first, coef-below}

-- the first term's variable stands in the terms
pub first_stands : (low : ℕ) (rest ts : List (ℕ × ℤ)) (t : ℕ × ℤ) → rest ≡ t ∷ ts → IsAbove low rest → coef_at rest t.0 ≢ pos 0
first_stands low rest ts t e above none =
    let above' : IsAbove low (t ∷ ts) = subst (IsAbove low) e above in
    above'.1 (sym (coef-first t.0 t.0 t.1 ts refl above'.2) ∙ sym (ap (λ z. coef_at z t.0) e) ∙ none)

-- and none below it
pub first_least : (low : ℕ) (rest ts : List (ℕ × ℤ)) (t : ℕ × ℤ) (w : ℕ) → rest ≡ t ∷ ts → IsAbove low rest → w < t.0 → coef_at rest w ≡ pos 0
first_least low rest ts t w e above lt =
    let above' : IsAbove low (t ∷ ts) = subst (IsAbove low) e above in
    ap (λ z. coef_at z w) e ∙ coef-below t.0 (t ∷ ts) w (same t.0, above'.1, above'.2) lt
  where
    same : (n : ℕ) → n ≤ n
    same n = omega arith
