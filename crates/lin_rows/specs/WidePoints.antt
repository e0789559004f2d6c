-- Where elimination, or the way back from it to a point, leaves 128 bits.
use Rattle.std.specs.Prelude.{◌≡◌, ◌≢◌, ℕ, ◌+◌, ◌≤◌, ◌<◌, nat_lt, ℤ, pos, ◌-ℤ◌, ◌*ℤ◌, ◌<ℤ◌, List, [], ◌∷◌, ◌++◌, ◌⊎◌, map, filter, All, Any, FitsSigned}
use Rattle.std.specs.Int.{w128}
use Rattle.lin_rows.specs.declared.row.Row.{Row}
use Rattle.lin_rows.specs.declared.point.Point.{Point}
use Rattle.lin_rows.specs.declared.wide.WidePoint.{WidePoint}
use Rattle.lin_rows.specs.declared.wide.WidePoint.TheVariants as points
use Rattle.lin_rows.specs.Terms.{coef_at, value_at}
use Rattle.lin_rows.specs.Lowest.{IsWideElimination}
use Rattle.lin_rows.specs.Derived.{Derived, Occurs}
use Rattle.lin_rows.specs.Points.{valuation, HasLeastUnit, Lists}

-- two rows derived before `v`, of opposite signs there, whose sum that cancels `v` is too wide
pub record IsWidePair (rows : List Row) (a b : Row) (v : ℕ) : Type 0 where
  pub left : Derived rows v a
  pub right : Derived rows v b
  pub positive : pos 0 <ℤ coef_at a.coefs v
  pub negative : coef_at b.coefs v <ℤ pos 0
  pub wide : IsWideElimination v a b

-- The row holds at the point with equality: the least variable that it has is at the bound that the row
-- gives from the values of the later ones.
abbrev pub IsTight : Point → Row → Type 0
IsTight p r = value_at (valuation p.values) r.coefs ≡ r.bound *ℤ p.q

-- the value of `v` is the bound that a row derived before `v` gives
abbrev pub IsBound : List Row → Point → ℕ → Type 0
IsBound rows p v = (r : Row) × Derived rows v r × (coef_at r.coefs v ≢ pos 0) × IsTight p r

-- a point of the variables of the rows from `n` on, in the least unit
pub record IsPointFrom (rows : List Row) (n : ℕ) (p : Point) : Type 0 where
  pub variables : Lists p (λ v. (n ≤ v) × Occurs rows v)
  pub unit : HasLeastUnit p

-- each value is 0, or the bound that a row derived before its variable gives
abbrev pub HasDerivedValues : List Row → Point → Type 0
HasDerivedValues rows p = All (λ t. (t.1 ≡ pos 0) ⊎ IsBound rows p t.0) p.values

-- the products of a row's coefficients after `v` with the values, in the order of the variables
abbrev pub products_after : ℕ → Row → (ℕ → ℤ) → List ℤ
products_after v r x = map (λ t. t.1 *ℤ x t.0) (filter (λ t. nat_lt v t.0) r.coefs)

-- a number, and what is left of it as others are taken away one by one
abbrev pub rests_of : ℤ → List ℤ → List ℤ
rests_of z [] = z ∷ []
rests_of z (y ∷ ys) = z ∷ rests_of (z -ℤ y) ys

-- The products that make up the bound on `v`, and their sums. The products are those of each coefficient
-- after `v` with the value of its variable, and that of the row's bound with the unit. A sum is that last
-- product, less the first of the others, any number of them, in the order of the variables.
abbrev pub numbers_back : Point → Row → ℕ → List ℤ
numbers_back p r v =
    let products = products_after v r (valuation p.values) in
    products ++ rests_of (r.bound *ℤ p.q) products

-- `p'` is the point with the bound that the row gives for `v`, in the new least unit
pub record Extends (p : Point) (r : Row) (v : ℕ) (p' : Point) : Type 0 where
  pub same : (u : ℕ) → v < u → valuation p'.values u *ℤ p.q ≡ valuation p.values u *ℤ p'.q
  pub bound : IsTight p' r

-- the number is outside 128 bits
abbrev pub IsWide : ℤ → Type 0
IsWide z = ¬ (FitsSigned w128 z)

abbrev pub HasWideNumber : Point → Type 0
HasWideNumber p = IsWide p.q ⊎ Any (λ t. IsWide t.1) p.values

-- `p` is a point of the variables after `v` as the way back makes it, and `r` a row derived before `v`
-- that has it, where a number of the way back to `v`, or of the point with its value, is outside 128 bits
pub record IsWideBound (rows : List Row) (p : Point) (r : Row) (v : ℕ) : Type 0 where
  pub derived : Derived rows v r
  pub has : coef_at r.coefs v ≢ pos 0
  pub after : IsPointFrom rows (v + 1) p
  pub way : HasDerivedValues rows p
  pub wide : Any IsWide (numbers_back p r v) ⊎ ((p' : Point) × IsPointFrom rows v p' × Extends p r v p' × HasWideNumber p')

-- the wide points of rows; a form is none
abbrev pub IsWidePointOf : List Row → WidePoint → Type 0
IsWidePointOf rows (points.Pair a b v) = IsWidePair rows a b v
IsWidePointOf rows (points.Bound p r v) = IsWideBound rows p r v
IsWidePointOf rows (points.Form place) = ⊥
