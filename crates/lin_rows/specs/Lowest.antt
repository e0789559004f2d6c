-- The sum of two rows that cancels a variable, with the lowest multipliers that do.
use Rattle.std.specs.Prelude.{◌≡◌, ℕ, ℤ, pos, ◌+ℤ◌, ◌*ℤ◌, ◌<ℤ◌, ◌≤ℤ◌, FitsSigned}
use Rattle.std.specs.Int.{w128}
use Rattle.lin_rows.specs.declared.row.Row.{Row}
use Rattle.lin_rows.specs.Terms.{coef_at}
use Rattle.lin_rows.specs.Rows.{IsSum, NumbersFit}

-- the positive multipliers `k` and `l` cancel the coefficients `x` and `y`
pub record Cancels (x y k l : ℤ) : Type 0 where
  pub left : pos 0 <ℤ k
  pub right : pos 0 <ℤ l
  pub none : k *ℤ x +ℤ l *ℤ y ≡ pos 0

-- no others that do are lower
pub record IsLowest (x y k l : ℤ) : Type 0 where
  pub cancels : Cancels x y k l
  pub least : (m n : ℤ) → Cancels x y m n → (k ≤ℤ m) × (l ≤ℤ n)

-- one of the lowest multipliers is outside 128 bits
abbrev pub HasWideLowest : ℤ → ℤ → Type 0
HasWideLowest x y = (k : ℤ) × (l : ℤ) × IsLowest x y k l × ¬ (FitsSigned w128 k × FitsSigned w128 l)

-- what holds of the lowest multipliers that cancel `v`
abbrev pub AtLowest : ℕ → Row → Row → (ℤ → ℤ → Type 0) → Type 0
AtLowest v a b P = (k : ℤ) × (l : ℤ) × IsLowest (coef_at a.coefs v) (coef_at b.coefs v) k l × P k l

-- `r` is the sum of `a` and `b` with these multipliers
abbrev pub IsElimination : ℕ → Row → Row → Row → Type 0
IsElimination v a b r = AtLowest v a b (λ k l. IsSum k l a b r)

-- all its numbers are within 128 bits
abbrev pub FitsElimination : ℕ → Row → Row → Type 0
FitsElimination v a b = AtLowest v a b (λ k l. NumbersFit k l a b)

-- one of its numbers is outside: a multiplier, its product with a coefficient or bound of its row, or a
-- sum of two such products
abbrev pub IsWideElimination : ℕ → Row → Row → Type 0
IsWideElimination v a b = AtLowest v a b (λ k l. ¬ (NumbersFit k l a b))
