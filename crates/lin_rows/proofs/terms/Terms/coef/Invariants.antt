use Rattle.std.specs.Prelude.{◌≡◌, ℕ, drop}
use Rattle.lin_rows.specs.Terms.{IsAbove, coef_at}
use Rattle.lin_rows.proofs.terms.Terms.coef.Given as goal

-- the terms that are left are in order and have the coefficient
abbrev pub invariant-loop-v : goal.invariant-loop-v
invariant-loop-v l = record {
  in_order : (low : ℕ) × IsAbove low (drop l.v-index l.v-items);
  same : coef_at l.self l.var ≡ coef_at (drop l.v-index l.v-items) l.var;
}
