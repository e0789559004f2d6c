-- Differences of linear forms.
use Rattle.std.specs.Prelude.{◌≡◌, ℕ, ℤ, ◌-ℤ◌, List, FitsSigned}
use Rattle.std.specs.Int.{w128}
use Rattle.lin_rows.specs.Terms.{coef_at}
use Rattle.lin_rows.specs.declared.Row.{Row}

-- the coefficients of the terms are within 128 bits
abbrev pub CoefsFit : List (ℕ × ℤ) → Type 0
CoefsFit ts = (v : ℕ) → FitsSigned w128 (coef_at ts v)

-- so are the differences of those of two lists
abbrev pub LessFits : List (ℕ × ℤ) → List (ℕ × ℤ) → Type 0
LessFits ts us = (v : ℕ) → FitsSigned w128 (coef_at ts v -ℤ coef_at us v)

-- `r` is the row with these terms taken away, its coefficients within 128 bits
pub record Lessens (a : Row) (ts : List (ℕ × ℤ)) (r : Row) : Type 0 where
  pub coefs : (v : ℕ) → coef_at r.coefs v ≡ coef_at a.coefs v -ℤ coef_at ts v
  pub bound : r.bound ≡ a.bound
  pub fits : CoefsFit r.coefs
