-- What a row says, and what a sum of two rows is.
use Rattle.std.specs.Prelude.{◌≡◌, ℕ, ℤ, ◌+ℤ◌, ◌*ℤ◌, ◌≤ℤ◌, FitsSigned}
use Rattle.std.specs.Int.{w128}
use Rattle.lin_rows.specs.declared.row.Row.{Row}
use Rattle.lin_rows.specs.Terms.{coef_at, value_at}

-- the numbers `x`, in parts of 1/q, meet the row
abbrev pub Meets : ℤ → (ℕ → ℤ) → Row → Type 0
Meets q x r = value_at x r.coefs ≤ℤ (r.bound *ℤ q)

-- `r` is the exact sum of `k` times `a` and `l` times `b`
pub record IsSum (k l : ℤ) (a b r : Row) : Type 0 where
  pub coefs : (v : ℕ) → coef_at r.coefs v ≡ k *ℤ coef_at a.coefs v +ℤ l *ℤ coef_at b.coefs v
  pub bound : r.bound ≡ k *ℤ a.bound +ℤ l *ℤ b.bound

-- both products and their sum are within 128 bits
abbrev pub MixFits : ℤ → ℤ → ℤ → ℤ → Type 0
MixFits k x l y = FitsSigned w128 (k *ℤ x) × FitsSigned w128 (l *ℤ y) × FitsSigned w128 (k *ℤ x +ℤ l *ℤ y)

-- so are those of the coefficients of every variable, and of the bounds
pub record SumFits (k l : ℤ) (a b : Row) : Type 0 where
  pub coefs : (v : ℕ) → MixFits k (coef_at a.coefs v) l (coef_at b.coefs v)
  pub bound : MixFits k a.bound l b.bound

-- so are the multipliers, all of these products and the sums of two
pub record NumbersFit (k l : ℤ) (a b : Row) : Type 0 where
  pub left : FitsSigned w128 k
  pub right : FitsSigned w128 l
  pub sum : SumFits k l a b
