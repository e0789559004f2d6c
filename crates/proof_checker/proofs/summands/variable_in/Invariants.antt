use Rattle.std.specs.Prelude.{◌≡◌, ℕ, ◌<◌, drop}
use Rattle.lin_rows.specs.Terms.{IsAbove, coef_at}
use Rattle.proof_checker.proofs.summands.variable_in.Given as goal

-- the terms that are left are in order and have the coefficients of the greater variables
abbrev pub invariant-loop-v : goal.invariant-loop-v
invariant-loop-v l = record {
  in_order : (low : ℕ) × IsAbove low (drop l.v-index l.v-items);
  same : (w : ℕ) → l.last < w → coef_at l.row.coefs w ≡ coef_at (drop l.v-index l.v-items) w;
}
