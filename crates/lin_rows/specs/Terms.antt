-- Linear forms, as lists of terms, each a variable and its coefficient.
use Rattle.std.specs.Prelude.{◌≢◌, ℕ, ◌+◌, ◌≤◌, ◌==◌, if◌then◌else◌, ℤ, pos, ◌+ℤ◌, ◌*ℤ◌, List, [], ◌∷◌}

-- the variables rise from `n` on, and no coefficient is 0
abbrev pub IsAbove : ℕ → List (ℕ × ℤ) → Type 0
IsAbove n [] = Unit {0}
IsAbove n (t ∷ ts) = (n ≤ t.0) × (t.1 ≢ pos 0) × IsAbove (t.0 + 1) ts

-- the one list of terms of a linear form: variables in ascending order, no coefficient 0
abbrev pub IsNormal : List (ℕ × ℤ) → Type 0
IsNormal ts = IsAbove 0 ts

-- the coefficient of a variable: the sum of those of its terms, 0 where it has none
abbrev pub coef_at : List (ℕ × ℤ) → ℕ → ℤ
coef_at [] v = pos 0
coef_at (t ∷ ts) v = if v == t.0 then t.1 +ℤ coef_at ts v else coef_at ts v

-- the value of a linear form at a valuation
abbrev pub value_at : (ℕ → ℤ) → List (ℕ × ℤ) → ℤ
value_at x [] = pos 0
value_at x (t ∷ ts) = t.1 *ℤ x t.0 +ℤ value_at x ts
