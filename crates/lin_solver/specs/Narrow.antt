-- Rows whose numbers stay within 128 bits on the way to an answer.
use Rattle.std.specs.Prelude.{◌≡◌, ℕ, ◌≤◌, ◌<◌, ◌^◌, unsigned_abs, List, ◌⊎◌, All}
use Rattle.lin_rows.specs.declared.row.Row.{Row}
use Rattle.lin_rows.specs.Terms.{coef_at}
use Rattle.lin_rows.specs.Derived.{Occurs}
use Rattle.lin_solver.specs.declared.solving.Solved.{Solved}
use Rattle.lin_solver.specs.declared.solving.Solved.TheVariants as solutions

-- no number of the row is above `m` in size
pub record IsWithin (m : ℕ) (r : Row) : Type 0 where
  pub coefs : (v : ℕ) → unsigned_abs (coef_at r.coefs v) ≤ m
  pub bound : unsigned_abs r.bound ≤ m

-- each variable of the rows is one of these three
abbrev pub AreAmong : List Row → ℕ → ℕ → ℕ → Type 0
AreAmong rows a b c = (v : ℕ) → Occurs rows v → (v ≡ a) ⊎ ((v ≡ b) ⊎ (v ≡ c))

-- the rows have at most three variables, and no number above 2 ^ 11
pub record IsNarrow (rows : List Row) : Type 0 where
  pub variables : (a : ℕ) × (b : ℕ) × (c : ℕ) × (a < b) × (b < c) × AreAmong rows a b c
  pub numbers : All (IsWithin (2 ^ 11)) rows

-- a combination or a point
abbrev pub IsDecided : Solved → Type 0
IsDecided (solutions.Combination steps) = Unit {0}
IsDecided (solutions.Point point) = Unit {0}
IsDecided (solutions.Wide point) = ⊥
