-- The variables of rows, in ascending order.
use Rattle.std.specs.Prelude.{◌≡◌, ℕ, ◌≤◌, ◌<◌, ℤ, pos, List, All}
use Rattle.lin_rows.specs.declared.row.Row.{Row}
use Rattle.lin_rows.specs.Terms.{coef_at}
use Rattle.lin_rows.specs.Derived.{Occurs}

-- the terms have no variable from `m` on
abbrev pub HasNoneFrom : ℕ → List (ℕ × ℤ) → Type 0
HasNoneFrom m ts = (w : ℕ) → m ≤ w → coef_at ts w ≡ pos 0

-- nor from `m` on below `n`
abbrev pub HasNoneBetween : ℕ → ℕ → List (ℕ × ℤ) → Type 0
HasNoneBetween m n ts = (w : ℕ) → m ≤ w → w < n → coef_at ts w ≡ pos 0

-- the least variable of the rows that isn't below `m`
pub record IsNextVariable (rows : List Row) (m v : ℕ) : Type 0 where
  pub from : m ≤ v
  pub occurs : Occurs rows v
  pub least : All (λ r. HasNoneBetween m v r.coefs) rows
