-- Laws of derived rows.
use Rattle.std.specs.Prelude.{◌≡◌, ℕ, zero, suc, ◌+◌, ◌<◌, ℤ, pos, List, All}
use Rattle.std.proofs.Common.{sym, ap, subst, ◌∙◌, arith}
use Rattle.std.proofs.lemmas.List.Elements.{All-contains}
use Rattle.lin_rows.specs.declared.row.Row.{Row}
use Rattle.lin_rows.specs.Terms.{coef_at}
use Rattle.lin_rows.specs.Rows.{Meets}
use Rattle.lin_rows.specs.Lowest.{IsElimination}
use Rattle.lin_rows.specs.Derived.{Derived, given, kept, summed}
use Rattle.lin_rows.specs.Ring.{mixed-none, ≤ℤ-from_<ℤ}
use Rattle.lin_rows.specs.TermLaws.{at_or_not}
use Rattle.lin_rows.specs.RowLaws.{meets-sum}

-- a row that elimination gives is met where both rows are
pub meets-elimination : (q : ℤ) (x : ℕ → ℤ) (v : ℕ) (a b r : Row) → IsElimination v a b r → Meets q x a → Meets q x b → Meets q x r
meets-elimination q x v a b r (k, l, low, sum) p s =
    meets-sum q k l x a b r (≤ℤ-from_<ℤ k low.cancels.left) (≤ℤ-from_<ℤ l low.cancels.right) sum p s

-- derived rows are met where the rows are
pub meets-derived : (q : ℤ) (x : ℕ → ℤ) (rows : List Row) (v : ℕ) (r : Row) → All (Meets q x) rows → Derived rows v r → Meets q x r
meets-derived q x rows _ r met (given _ there) = All-contains (Meets q x) rows r met there
meets-derived q x rows _ r met (kept v _ d none) = meets-derived q x rows v r met d
meets-derived q x rows _ r met (summed v a b _ d e above below sum) =
    meets-elimination q x v a b r sum (meets-derived q x rows v a met d) (meets-derived q x rows v b met e)

-- a row derived before a variable has no lower one
pub derived-below : (rows : List Row) (v : ℕ) (r : Row) → Derived rows v r → (w : ℕ) → w < v → coef_at r.coefs w ≡ pos 0
derived-below rows _ r (given _ there) w lt = absurd (omega arith)
derived-below rows _ r (kept v _ d none) w lt = at_or_not w v
    (λ e. ap (coef_at r.coefs) e ∙ none)
    (λ n. derived-below rows v r d w (omega arith))
derived-below rows _ r (summed v a b _ d e above below (k, l, low, sum)) w lt = at_or_not w v
    (λ f. ap (coef_at r.coefs) f ∙ sum.coefs v ∙ low.cancels.none)
    (λ n. sum.coefs w ∙ mixed-none k l (coef_at a.coefs w) (coef_at b.coefs w) (derived-below rows v a d w (omega arith)) (derived-below rows v b e w (omega arith)))

-- nor one that none of the rows has
pub derived-absent : (rows : List Row) (v : ℕ) (r : Row) (w : ℕ) → All (λ s. coef_at s.coefs w ≡ pos 0) rows → Derived rows v r → coef_at r.coefs w ≡ pos 0
derived-absent rows _ r w none (given _ there) = All-contains (λ s. coef_at s.coefs w ≡ pos 0) rows r none there
derived-absent rows _ r w none (kept v _ d zero_) = derived-absent rows v r w none d
derived-absent rows _ r w none (summed v a b _ d e above below (k, l, low, sum)) =
    sum.coefs w ∙ mixed-none k l (coef_at a.coefs w) (coef_at b.coefs w) (derived-absent rows v a w none d) (derived-absent rows v b w none e)

-- a derived row is derived before each later variable up to its first
pub derived-later : (rows : List Row) (v n : ℕ) (r : Row) → Derived rows v r → ((w : ℕ) → w < v + n → coef_at r.coefs w ≡ pos 0) → Derived rows (v + n) r
derived-later rows v zero r d none = subst (λ u. Derived rows u r) (sym (plus_zero v)) d
  where
    plus_zero : (v : ℕ) → v + 0 ≡ v
    plus_zero v = omega arith
derived-later rows v (suc n) r d none =
    subst (λ u. Derived rows u r) (plus_suc v n) (kept (v + n) r (derived-later rows v n r d (λ w lt. none w (omega arith))) (none (v + n) (omega arith)))
  where
    plus_suc : (v n : ℕ) → v + n + 1 ≡ v + suc n
    plus_suc v n = omega arith
