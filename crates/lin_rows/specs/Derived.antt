-- The rows that elimination derives from rows, its variables taken in ascending order.
use Rattle.std.specs.Prelude.{◌≡◌, ◌≢◌, ℕ, ◌+◌, pos, ◌<ℤ◌, List, Contains}
use Rattle.lin_rows.specs.declared.row.Row.{Row}
use Rattle.lin_rows.specs.Terms.{coef_at}
use Rattle.lin_rows.specs.Lowest.{IsElimination}

-- a variable stands in one of the rows
abbrev pub Occurs : List Row → ℕ → Type 0
Occurs rows v = (r : Row) × Contains rows r × (coef_at r.coefs v ≢ pos 0)

-- A row derived before a variable: before the first the rows themselves; before the next after `v`
-- those derived before `v` that don't have `v`, and the sums that cancel `v` of each two that have it
-- with opposite signs. A number that is no variable of the rows changes nothing.
pub data Derived (rows : List Row) : ℕ → Row → Type 0 where
  given : (r : Row) → Contains rows r → Derived rows 0 r
  kept : (v : ℕ) (r : Row) → Derived rows v r → coef_at r.coefs v ≡ pos 0 → Derived rows (v + 1) r
  summed : (v : ℕ) (a b r : Row) → Derived rows v a → Derived rows v b → pos 0 <ℤ coef_at a.coefs v → coef_at b.coefs v <ℤ pos 0 → IsElimination v a b r → Derived rows (v + 1) r
