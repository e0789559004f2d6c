-- Points: numbers for variables, in parts of a unit.
use Rattle.std.specs.Prelude.{◌≡◌, ◌≢◌, ℕ, ◌==◌, ◌≤◌, if◌then◌else◌, ℤ, pos, ◌*ℤ◌, ◌≤ℤ◌, unsigned_abs, List, [], ◌∷◌, map, Contains, All, AllPairs}
use Rattle.std.specs.Int.{◌∣◌}
use Rattle.lin_rows.specs.declared.point.Point.{Point}

-- the valuation that a list of numbers means: 0 for a variable that isn't listed
abbrev pub valuation : List (ℕ × ℤ) → ℕ → ℤ
valuation [] v = pos 0
valuation (t ∷ ts) v = if v == t.0 then t.1 else valuation ts v

-- a number `z` in parts of 1/q is whole in parts of 1/unit
abbrev pub IsWholeIn : ℤ → ℤ → ℤ → Type 0
IsWholeIn q unit z = (y : ℤ) × (y *ℤ q ≡ z *ℤ unit)

-- the unit is the least one that makes all values whole
pub record HasLeastUnit (p : Point) : Type 0 where
  pub positive : pos 1 ≤ℤ p.q
  pub least : (unit : ℤ) → pos 1 ≤ℤ unit → All (λ t. IsWholeIn p.q unit t.1) p.values → p.q ≤ℤ unit

-- no number above 1 divides the unit and all values
abbrev pub HasNoDivisor : ℕ → List (ℕ × ℤ) → Type 0
HasNoDivisor q values = (d : ℕ) → d ∣ q → All (λ t. d ∣ unsigned_abs t.1) values → d ≤ 1

-- these variables are listed, each once, and no others
pub record Lists (p : Point) (P : ℕ → Type 0) : Type 0 where
  pub listed : (v : ℕ) → P v → Contains (map (λ t. t.0) p.values) v
  pub no_other : All (λ t. P t.0) p.values
  pub once : AllPairs (λ s t. s.0 ≢ t.0) p.values
