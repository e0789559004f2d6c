-- Laws of rows and their sums.
use Rattle.std.specs.Prelude.{◌≡◌, ℕ, ◌+◌, ◌*◌, ◌<◌, ℤ, pos, negsuc, ◌+ℤ◌, ◌*ℤ◌, ◌≤ℤ◌, ◌<ℤ◌, List}
use Rattle.std.proofs.Common.{sym, ap, ◌∙◌, subst, arith}
use Rattle.std.proofs.lemmas.Int.{ints}
use Rattle.lin_rows.specs.declared.row.Row.{Row}
use Rattle.lin_rows.specs.Terms.{IsNormal, value_at}
use Rattle.lin_rows.specs.Rows.{Meets, IsSum}
use Rattle.lin_rows.specs.Steps.{IsFalse}
use Rattle.lin_rows.specs.Ring.{spread, *ℤ-≤ℤ, +ℤ-≤ℤ}
use Rattle.lin_rows.specs.TermLaws.{same_terms, value-mixed}

-- a sum by multipliers that aren't negative is met where both rows are
pub meets-sum : (q k l : ℤ) (x : ℕ → ℤ) (a b r : Row) → pos 0 ≤ℤ k → pos 0 ≤ℤ l → IsSum k l a b r → Meets q x a → Meets q x b → Meets q x r
meets-sum q k l x a b r kk ll is p s =
    let value = value-mixed k l x a.coefs b.coefs r.coefs is.coefs in
    let bound : r.bound *ℤ q ≡ k *ℤ (a.bound *ℤ q) +ℤ l *ℤ (b.bound *ℤ q) = ap (λ z. z *ℤ q) is.bound ∙ spread k l a.bound b.bound q in
    let le = +ℤ-≤ℤ (k *ℤ value_at x a.coefs) (k *ℤ (a.bound *ℤ q)) (l *ℤ value_at x b.coefs) (l *ℤ (b.bound *ℤ q))
    (*ℤ-≤ℤ k (value_at x a.coefs) (a.bound *ℤ q) kk p) (*ℤ-≤ℤ l (value_at x b.coefs) (b.bound *ℤ q) ll s) in
    subst (λ z. z ≤ℤ (r.bound *ℤ q)) (sym value) (subst (λ z. (k *ℤ value_at x a.coefs +ℤ l *ℤ value_at x b.coefs) ≤ℤ z) (sym bound) le)

abbrev row_of : List (ℕ × ℤ) → ℤ → Row
row_of ts z = record { coefs = ts; bound = z }

-- two rows have one sum
pub same_sum : (k l : ℤ) (a b r s : Row) → IsNormal r.coefs → IsNormal s.coefs → IsSum k l a b r → IsSum k l a b s → r ≡ s
same_sum k l a b r s p q f g =
    let terms : r.coefs ≡ s.coefs = same_terms r.coefs s.coefs p q (λ v. f.coefs v ∙ sym (g.coefs v)) in
    let bounds : r.bound ≡ s.bound = f.bound ∙ sym g.bound in
    ap (λ (ts : List (ℕ × ℤ)). row_of ts r.bound) terms ∙ ap (λ (z : ℤ). row_of s.coefs z) bounds

-- a row with no terms and a negative bound is met nowhere
pub false_row : (q : ℤ) (x : ℕ → ℤ) (r : Row) → pos 1 ≤ℤ q → IsFalse r → Meets q x r → ⊥
false_row q x r positive false_ met =
    let at : pos 0 ≤ℤ (r.bound *ℤ q) = subst (λ z. value_at x z ≤ℤ (r.bound *ℤ q)) false_.0 met in
    no_negative r.bound q false_.1 positive at
  where
    less_times : (m n : ℕ) → 0 < m → 0 < n → 0 < m * n
    less_times m n p q = grind arith

    no_negative : (b q : ℤ) → b <ℤ pos 0 → pos 1 ≤ℤ q → pos 0 ≤ℤ (b *ℤ q) → ⊥
    no_negative (pos m) q p r h = absurd (omega (arith, ints))
    no_negative (negsuc m) (negsuc n) p r h = absurd (omega (arith, ints))
    no_negative (negsuc m) (pos n) p r h = let z : 0 < (m + 1) * n = less_times (m + 1) n (omega arith) (omega (arith, ints)) in omega (arith, ints)
