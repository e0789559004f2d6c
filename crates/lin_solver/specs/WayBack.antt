-- The way back from levels to a point of the rows.
use Rattle.std.specs.Prelude.{◌≡◌, ℕ, ◌+◌, ◌≤◌, ◌<◌, nat_lt, ℤ, pos, ◌*ℤ◌, ◌-ℤ◌, ◌≤ℤ◌, ◌<ℤ◌, unsigned_abs, neg_ℤ, Bool, true, false, List, [], ◌∷◌, ◌++◌, map, filter, All, Any, Contains}
use Rattle.lin_rows.specs.declared.row.Row.{Row}
use Rattle.lin_rows.specs.declared.step.ComboStep.{ComboStep}
use Rattle.lin_rows.specs.declared.point.Point.{Point}
use Rattle.lin_rows.specs.Terms.{coef_at, value_at}
use Rattle.lin_rows.specs.Rows.{Meets}
use Rattle.lin_rows.specs.Derived.{Occurs}
use Rattle.lin_rows.specs.Points.{valuation, HasNoDivisor, Lists}
use Rattle.lin_rows.specs.WidePoints.{HasDerivedValues, HasWideNumber, IsWide, numbers_back}
use Rattle.lin_rows.specs.LowestLaws.{AreCoprime}
use Rattle.lin_solver.specs.Numbers.{HasRow, HaveRows, Bounds, BoundsAbove, BoundsBelow, AreCovered}
use Rattle.lin_solver.specs.declared.levels.Level.{Level}
use Rattle.lin_solver.specs.declared.worst.Violation.{Violation}
use Rattle.lin_solver.specs.declared.worst.AtZero.{AtZero}
use Rattle.lin_solver.specs.declared.worst.AtZero.TheVariants as found

-- the point meets the row
abbrev pub IsMetAt : Point → Row → Type 0
IsMetAt p r = Meets p.q (valuation p.values) r

-- the unit is at least 1, and every row is met
abbrev pub IsSolution : List Row → Point → Type 0
IsSolution rows p = (pos 1 ≤ℤ p.q) × All (IsMetAt p) rows

-- a point of the variables of the rows from `n` on, each value 0 or a bound, the unit in lowest terms with
-- the values
pub record IsOnWay (rows : List Row) (n : ℕ) (p : Point) : Type 0 where
  pub variables : Lists p (λ v. (n ≤ v) × Occurs rows v)
  pub positive : pos 1 ≤ℤ p.q
  pub reduced : HasNoDivisor (unsigned_abs p.q) p.values
  pub way : HasDerivedValues rows p

-- what a row leaves for its term with `v` at a point of the variables after `v`
abbrev pub room : Point → Row → ℕ → ℤ
room p r v = r.bound *ℤ p.q -ℤ value_at (valuation p.values) (filter (λ t. nat_lt v t.0) r.coefs)

-- the size of a number
abbrev pub size : ℤ → ℤ
size z = pos (unsigned_abs z)

-- `n / |c|` is at most `m / |d|`
abbrev pub IsAtMost : ℤ → ℤ → ℤ → ℤ → Type 0
IsAtMost n c m d = (n *ℤ size d) ≤ℤ (m *ℤ size c)

-- A row of one of the numbers that the value 0 of `v` doesn't meet. Its bound on `v` meets the rows of all
-- these numbers that bound `v` from the same side.
pub record IsWorst (rows : List Row) (steps : List ComboStep) (p : Point) (v : ℕ) (numbers : List ℕ) (w : Violation) : Type 0 where
  pub among : Contains numbers w.number
  pub row : HasRow rows steps (λ r. (w.coef ≡ coef_at r.coefs v) × (w.room ≡ room p r v)) w.number
  pub violated : w.room <ℤ pos 0
  pub worst : HaveRows rows steps (λ r. IsAtMost w.room w.coef (room p r v) (coef_at r.coefs v)) numbers

-- so is it for some numbers of rows that bound `v`
abbrev pub IsWorstOfSome : List Row → List ComboStep → Point → ℕ → Violation → Type 0
IsWorstOfSome rows steps p v w = (numbers : List ℕ) × HaveRows rows steps (Bounds rows v) numbers × IsWorst rows steps p v numbers w

-- a row of one of the numbers, where a number on the way to its room is outside 128 bits
pub record IsWideAt (rows : List Row) (steps : List ComboStep) (p : Point) (v : ℕ) (numbers : List ℕ) (i : ℕ) : Type 0 where
  pub among : Contains numbers i
  pub row : HasRow rows steps (λ r. Any IsWide (numbers_back p r v)) i

-- the value 0 of `v` meets all rows, or the worst is found, or a number is too wide
abbrev pub IsFound : List Row → List ComboStep → Point → ℕ → List ℕ → AtZero → Type 0
IsFound rows steps p v numbers found.Met = HaveRows rows steps (λ r. pos 0 ≤ℤ room p r v) numbers
IsFound rows steps p v numbers (found.Violated w) = IsWorst rows steps p v numbers w
IsFound rows steps p v numbers (found.Wide i) = IsWideAt rows steps p v numbers i

-- the number of a size and a sign
abbrev pub signed_number : Bool → ℕ → ℤ
signed_number true n = neg_ℤ (pos n)
signed_number false n = pos n

-- values in a unit `s` times as fine
abbrev pub scaled : ℤ → List (ℕ × ℤ) → List (ℕ × ℤ)
scaled s values = map (λ t. (t.0, t.1 *ℤ s)) values

-- the point with the value `z` for `v` in that unit
abbrev pub extension : Point → ℤ → ℕ → ℤ → Point
extension p s v z = record { q = p.q *ℤ s; values = scaled s p.values ++ (v, z) ∷ [] }

-- the value `n / c` for `v`, as `z / s` in lowest terms
pub record IsAtBound (p : Point) (n c : ℤ) (v : ℕ) (p' : Point) : Type 0 where
  pub s : ℤ
  pub z : ℤ
  pub positive : pos 1 ≤ℤ s
  pub lowest : AreCoprime (unsigned_abs s) (unsigned_abs z)
  pub bound : c *ℤ z ≡ n *ℤ s
  pub point : p' ≡ extension p s v z

abbrev pub HasWideBound : Point → ℤ → ℤ → ℕ → Type 0
HasWideBound p n c v = (p' : Point) × IsAtBound p n c v p' × HasWideNumber p'

-- a row has no variable below `n`
abbrev pub HasNoneBelow : ℕ → Row → Type 0
HasNoneBelow n r = (w : ℕ) → w < n → coef_at r.coefs w ≡ pos 0

-- the sums that cancel `v` in the rows of these numbers are met
abbrev pub AreSumsMet : List Row → List ComboStep → Point → ℕ → List ℕ → List ℕ → Type 0
AreSumsMet rows steps p v above below =
    (next : List ℕ) × AreCovered rows steps v next above below × HaveRows rows steps (IsMetAt p) next

-- what a step of the way back starts from: the level's rows, their sums, which are met, and a point of the
-- later variables
pub record IsReady (rows : List Row) (steps : List ComboStep) (level : Level) (p : Point) : Type 0 where
  pub occurs : Occurs rows level.var
  pub above : HaveRows rows steps (BoundsAbove rows level.var) level.above
  pub below : HaveRows rows steps (BoundsBelow rows level.var) level.below
  pub sums : AreSumsMet rows steps p level.var level.above level.below
  pub point : IsOnWay rows (level.var + 1) p

-- a point with a value for the level's variable, at which the level's rows are met, and each row of later
-- variables that was
pub record IsReached (rows : List Row) (steps : List ComboStep) (level : Level) (p p' : Point) : Type 0 where
  pub on_way : IsOnWay rows level.var p'
  pub above : HaveRows rows steps (IsMetAt p') level.above
  pub below : HaveRows rows steps (IsMetAt p') level.below
  pub later : (r : Row) → HasNoneBelow (level.var + 1) r → IsMetAt p r → IsMetAt p' r
