use Rattle.std.specs.Prelude.{◌≡◌, drop}
use Rattle.lin_rows.specs.Points.{valuation}
use Rattle.cond_plan.proofs.gap.value_of.Given as goal

-- the values that are left have the variable's
abbrev pub invariant-loop-v : goal.invariant-loop-v
invariant-loop-v l = valuation l.fn.values l.fn.var ≡ valuation (drop l.v-index l.fn.values) l.fn.var
