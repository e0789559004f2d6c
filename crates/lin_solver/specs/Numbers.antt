-- The numbers of rows, and what is said of the rows that have them.
use Rattle.std.specs.Prelude.{◌≡◌, ◌≢◌, ℕ, pos, ◌<ℤ◌, ◌≤ℤ◌, List, [], ◌∷◌, ◌++◌, Option, Some, map, slice_get, All, Contains}
use Rattle.lin_rows.specs.declared.row.Row.{Row}
use Rattle.lin_rows.specs.declared.step.ComboStep.{ComboStep}
use Rattle.lin_rows.specs.Terms.{coef_at}
use Rattle.lin_rows.specs.Lowest.{IsElimination}
use Rattle.lin_rows.specs.Derived.{Derived}
use Rattle.lin_rows.specs.Steps.{all_rows}

-- the rows handed in, and then those of the steps
abbrev pub numbered : List Row → List ComboStep → List (Option Row)
numbered rows steps = all_rows (map Some rows) steps

-- the number is that of a row with the property
abbrev pub HasRow : List Row → List ComboStep → (Row → Type 0) → ℕ → Type 0
HasRow rows steps P i = (r : Row) × (slice_get (numbered rows steps) i ≡ Some (Some r)) × P r

-- so is each of these
abbrev pub HaveRows : List Row → List ComboStep → (Row → Type 0) → List ℕ → Type 0
HaveRows rows steps P is = All (HasRow rows steps P) is

-- any row
abbrev pub IsAny : Row → Type 0
IsAny r = Unit {0}

-- where the row has no variable, its bound isn't negative
abbrev pub MayBeMet : Row → Type 0
MayBeMet r = ((v : ℕ) → coef_at r.coefs v ≡ pos 0) → pos 0 ≤ℤ r.bound

-- a row derived before `v` that may be met
abbrev pub IsLive : List Row → ℕ → Row → Type 0
IsLive rows v r = Derived rows v r × MayBeMet r

-- one that has `v`, and so bounds it
abbrev pub Bounds : List Row → ℕ → Row → Type 0
Bounds rows v r = Derived rows v r × (coef_at r.coefs v ≢ pos 0)

-- one that has `v` with a positive coefficient, and so bounds it from above
abbrev pub BoundsAbove : List Row → ℕ → Row → Type 0
BoundsAbove rows v r = Derived rows v r × (pos 0 <ℤ coef_at r.coefs v)

-- one that bounds it from below
abbrev pub BoundsBelow : List Row → ℕ → Row → Type 0
BoundsBelow rows v r = Derived rows v r × (coef_at r.coefs v <ℤ pos 0)

-- the row is the sum of those of two numbers that cancels `v`
abbrev pub IsSumOf : List Row → List ComboStep → ℕ → ℕ → ℕ → Row → Type 0
IsSumOf rows steps v i j r = HasRow rows steps (λ a. HasRow rows steps (λ b. IsElimination v a b r) j) i

-- the first row implies the second: the same terms, and a bound that isn't greater
abbrev pub Implies : Row → Row → Type 0
Implies s r = (s.coefs ≡ r.coefs) × (s.bound ≤ℤ r.bound)

-- a row of these numbers implies it
abbrev pub FollowsFrom : List Row → List ComboStep → List ℕ → Row → Type 0
FollowsFrom rows steps numbers r = (n : ℕ) × Contains numbers n × HasRow rows steps (λ s. Implies s r) n

-- no two of these numbers have rows of the same terms, so that none of these rows implies another
abbrev pub AreApart : List Row → List ComboStep → List ℕ → Type 0
AreApart rows steps [] = Unit {0}
AreApart rows steps (n ∷ ns) = HasRow rows steps (λ r. HaveRows rows steps (λ s. s.coefs ≢ r.coefs) ns) n × AreApart rows steps ns

-- a sum that cancels `v` in the rows of the two follows from the next ones
abbrev pub IsCovered : List Row → List ComboStep → ℕ → List ℕ → ℕ → ℕ → Type 0
IsCovered rows steps v next i j = (r : Row) × IsSumOf rows steps v i j r × FollowsFrom rows steps next r

-- so is one for each two of these
abbrev pub AreCovered : List Row → List ComboStep → ℕ → List ℕ → List ℕ → List ℕ → Type 0
AreCovered rows steps v next above below = All (λ i. All (IsCovered rows steps v next i) below) above

-- the one list begins with the other
abbrev pub IsPrefix : {X : Type 0} → List X → List X → Type 0
IsPrefix {X} xs ys = (zs : List X) × (ys ≡ xs ++ zs)
