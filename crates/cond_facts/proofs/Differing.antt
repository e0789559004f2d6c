-- Sums and differences of a row and one term, and of all terms of a list.
use Rattle.std.specs.Prelude.{◌≡◌, ◌≢◌, ℕ, zero, suc, ◌+◌, ◌<◌, ◌≤◌, ℤ, pos, take, get_or, length, ◌+ℤ◌, ◌-ℤ◌, ◌*ℤ◌, List, [], ◌∷◌, Result, Ok, Err, IfOk, IfErr, FitsSigned}
use Rattle.std.specs.Int.{w128}
use Rattle.std.proofs.Common.{refl, ap, sym, subst, ◌∙◌, arith}
use Rattle.std.proofs.lemmas.Int.{ints}
use Rattle.std.proofs.lemmas.List.{take_more}
use Rattle.lin_rows.specs.declared.Row.{Row}
use Rattle.lin_rows.specs.declared.RowFault.{RowFault}
use Rattle.lin_rows.specs.declared.RowFault.TheVariants.{Wide}
use Rattle.lin_rows.specs.Terms.{IsAbove, IsNormal, coef_at}
use Rattle.lin_rows.specs.Rows.{IsSum, MixFits, SumFits}
use Rattle.lin_rows.specs.TermLaws.{at_or_not, coef-miss, coef-append, coef-first}
use Rattle.cond_facts.specs.Differences.{CoefsFit, Lessens, LessFits}

abbrev At : ℤ → Type 0
At z = FitsSigned w128 z

-- a sum by the multipliers 1 and 1
once_both : (x y x' y' : ℤ) → x ≡ x' → y ≡ y' → pos 1 *ℤ x +ℤ pos 1 *ℤ y ≡ x' +ℤ y'
once_both x y x' y' p q = omega (arith, ints, p, q)

once : (x x' : ℤ) → x ≡ x' → pos 1 *ℤ x ≡ x'
once x x' p = omega (arith, ints, p)

mix_fits : (x y x' y' : ℤ) → x ≡ x' → y ≡ y' → At x' → At y' → At (x' +ℤ y') → MixFits (pos 1) x (pos 1) y
mix_fits x y x' y' p q f g h =
    (subst At (sym (once x x' p)) f, subst At (sym (once y y' q)) g, subst At (sym (once_both x y x' y' p q)) h)

zero_fits : At (pos 0)
zero_fits = omega (arith, ints)

none_more : (x : ℤ) → x ≡ x +ℤ pos 0
none_more x = omega (arith, ints)

-- the row with one term more
pub more_coefs : (res : Result Row RowFault) (row one : Row) (ts : List (ℕ × ℤ)) → one.coefs ≡ ts → IfOk res (λ r. IsSum (pos 1) (pos 1) row one r) → IfOk res (λ r. (v : ℕ) → coef_at r.coefs v ≡ coef_at row.coefs v +ℤ coef_at ts v)
more_coefs (Ok r) row one ts e is = λ v. is.coefs v ∙ once_both (coef_at row.coefs v) (coef_at one.coefs v) (coef_at row.coefs v) (coef_at ts v) refl (ap (λ us. coef_at us v) e)
more_coefs (Err f) row one ts e is = tt

pub more_wide : (res : Result Row RowFault) (row one : Row) (var : ℕ) (coef : ℤ) → one.coefs ≡ (var, coef) ∷ [] → one.bound ≡ pos 0 → row.bound ≡ pos 0 → CoefsFit row.coefs → At coef → IfErr res (λ e. e ≡ Wide → ¬ (SumFits (pos 1) (pos 1) row one)) → IfErr res (λ e. e ≡ Wide → ¬ (At (coef_at row.coefs var +ℤ coef)))
more_wide (Ok r) row one var coef e b bound fits f wide = tt
more_wide (Err x) row one var coef e b bound fits f wide = λ same sum. wide same (record {
  coefs = λ v. at_or_not v var
      (λ here. mix_fits (coef_at row.coefs v) (coef_at one.coefs v) (coef_at row.coefs var) coef (ap (coef_at row.coefs) here) (ap (λ us. coef_at us v) e ∙ coef-first v var coef [] here tt) (fits var) f sum)
      (λ other. mix_fits (coef_at row.coefs v) (coef_at one.coefs v) (coef_at row.coefs v) (pos 0) refl (ap (λ us. coef_at us v) e ∙ coef-miss v var coef [] other) (fits v) zero_fits (subst At (none_more (coef_at row.coefs v)) (fits v)));
  bound = mix_fits row.bound one.bound (pos 0) (pos 0) bound b zero_fits zero_fits zero_fits;
})

-- a term in its place among terms in order
module _ (d : ℕ × ℤ) where
  abbrev InPlace : ℕ → List (ℕ × ℤ) → ℕ → ℕ × ℤ → Type 0
  InPlace n ts i t = (n ≤ t.0) × (t.1 ≢ pos 0) × (coef_at ts t.0 ≡ t.1) × (coef_at (take i ts) t.0 ≡ pos 0)

  in_place : (n : ℕ) (ts : List (ℕ × ℤ)) (i : ℕ) → i < length ts → IsAbove n ts → InPlace n ts i (get_or ts i d)
  in_place n [] i lt above = absurd (omega arith)
  in_place n (u ∷ us) zero lt above = (above.0, above.1, coef-first u.0 u.0 u.1 us refl above.2, refl)
  in_place n (u ∷ us) (suc i) lt above =
      let (from, some, here, none) = in_place (u.0 + 1) us i (omega arith) above.2 in
      let first : n ≤ u.0 = above.0 in
      let other : (get_or us i d).0 ≢ u.0 = apart u.0 (get_or us i d).0 from in
      (trans n u.0 (get_or us i d).0 first from, some, coef-miss (get_or us i d).0 u.0 u.1 us other ∙ here, coef-miss (get_or us i d).0 u.0 u.1 (take i us) other ∙ none)
    where
      apart : (m n : ℕ) → m + 1 ≤ n → n ≢ m
      apart m n le e = omega arith

      trans : (l m n : ℕ) → l ≤ m → m + 1 ≤ n → l ≤ n
      trans l m n p q = omega arith

  pub some_at : (ts : List (ℕ × ℤ)) (i : ℕ) → i < length ts → IsNormal ts → (get_or ts i d).1 ≢ pos 0
  some_at ts i lt normal = (in_place 0 ts i lt normal).1

  pub less_next : (row rest r : Row) (ts : List (ℕ × ℤ)) (i : ℕ) → i < length ts → Lessens row (take i ts) rest → Lessens rest (get_or ts i d ∷ []) r → Lessens row (take (i + 1) ts) r
  less_next row rest r ts i lt before one = record {
    coefs = λ v.
        one.coefs v ∙ ap (λ z. z -ℤ coef_at (get_or ts i d ∷ []) v) (before.coefs v) ∙ both_less (coef_at row.coefs v) (coef_at (take i ts) v) (coef_at (get_or ts i d ∷ []) v) (coef_at (take (i + 1) ts) v) (ap (λ us. coef_at us v) (take_more ts i d lt) ∙ coef-append (take i ts) (get_or ts i d ∷ []) v);
    bound = one.bound ∙ before.bound;
    fits = one.fits;
  }
    where
      both_less : (x y z w : ℤ) → w ≡ y +ℤ z → (x -ℤ y) -ℤ z ≡ x -ℤ w
      both_less x y z w e = omega (arith, ints, e)

  pub less_wide : (row rest : Row) (ts : List (ℕ × ℤ)) (i : ℕ) → i < length ts → IsNormal ts → Lessens row (take i ts) rest → ¬ (At (coef_at rest.coefs (get_or ts i d).0 -ℤ (get_or ts i d).1)) → ¬ (LessFits row.coefs ts)
  less_wide row rest ts i lt normal before wide fits =
      let (from, some, here, none) = in_place 0 ts i lt normal in
      let t = get_or ts i d in
      wide (subst At (sym (same (coef_at rest.coefs t.0) (coef_at row.coefs t.0) (coef_at (take i ts) t.0) t.1 (coef_at ts t.0) (before.coefs t.0) none here)) (fits t.0))
    where
      same : (x y z w u : ℤ) → x ≡ y -ℤ z → z ≡ pos 0 → u ≡ w → x -ℤ w ≡ y -ℤ u
      same x y z w u e f g = omega (arith, ints, e, f, g)

pub less_none : (row : Row) (ts : List (ℕ × ℤ)) → CoefsFit row.coefs → Lessens row (take 0 ts) row
less_none row ts fits = record { coefs = λ v. none (coef_at row.coefs v); bound = refl; fits = fits }
  where
    none : (x : ℤ) → x ≡ x -ℤ pos 0
    none x = omega (arith, ints)
