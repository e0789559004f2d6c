-- The way through two lists of terms.
use Rattle.std.specs.Prelude.{◌≡◌, ◌≢◌, ℕ, ◌+◌, ◌≤◌, ℤ, List}
use Rattle.lin_rows.specs.Terms.{IsAbove, coef_at}

-- the terms after the least variable have the coefficients of the whole elsewhere
abbrev pub SameBut : ℕ → List (ℕ × ℤ) → List (ℕ × ℤ) → Type 0
SameBut v ts rest = (w : ℕ) → w ≢ v → coef_at ts w ≡ coef_at rest w

-- of two lists in order, `v` is the least variable, `x` and `y` are its coefficients, and `ls'` and
-- `rs'` the terms after it
pub record IsLeast (low : ℕ) (ls rs : List (ℕ × ℤ)) (v : ℕ) (x y : ℤ) (ls' rs' : List (ℕ × ℤ)) : Type 0 where
  pub from : low ≤ v
  pub lefts : IsAbove (v + 1) ls'
  pub rights : IsAbove (v + 1) rs'
  pub left : coef_at ls v ≡ x
  pub right : coef_at rs v ≡ y
  pub left_rest : SameBut v ls ls'
  pub right_rest : SameBut v rs rs'

abbrev pub TakesLeast : List (ℕ × ℤ) → List (ℕ × ℤ) → ℕ → ℤ → ℤ → List (ℕ × ℤ) → List (ℕ × ℤ) → Type 0
TakesLeast ls rs v x y ls' rs' = (low : ℕ) → IsAbove low ls → IsAbove low rs → IsLeast low ls rs v x y ls' rs'
