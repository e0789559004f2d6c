use Rattle.std.specs.Prelude.{◌≡◌, ℕ, ◌≤◌, drop}
use Rattle.lin_rows.specs.Terms.{IsAbove, coef_at}
use Rattle.lin_solver.proofs.variables.first_from.Given as goal

-- the terms that are left are in order and have the variables that aren't below
abbrev pub invariant-loop-v : goal.invariant-loop-v
invariant-loop-v l = record {
  in_order : (low : ℕ) × IsAbove low (drop l.v-index l.v-items);
  same : (w : ℕ) → l.fn.from ≤ w → coef_at l.fn.terms w ≡ coef_at (drop l.v-index l.v-items) w;
}
