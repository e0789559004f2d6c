-- What a valuation gives its symbols.
use Rattle.std.specs.Prelude.{ℕ, ◌==◌, if◌then◌else◌, Bool, false, List, [], ◌∷◌}
use Rattle.lin_rows.specs.Points.{valuation as number_in}
use Rattle.terms.specs.Meanings.{Valued}
use Rattle.proof_checker.specs.declared.condition.Valuation.{Valuation}

-- 0 for a reference that isn't listed
abbrev pub reference_in : List (ℕ × ℕ) → ℕ → ℕ
reference_in [] n = 0
reference_in (r ∷ rs) n = if n == r.0 then r.1 else reference_in rs n

-- false for a flag that isn't listed
abbrev pub flag_in : List (ℕ × Bool) → ℕ → Bool
flag_in [] n = false
flag_in (f ∷ fs) n = if n == f.0 then f.1 else flag_in fs n

-- its unit, numbers, references and flags
abbrev pub valued_by : Valuation → Valued
valued_by v = record {
  unit = v.q;
  numbers = number_in v.nums;
  references = reference_in v.refs;
  flags = flag_in v.flags;
}
