use Rattle.std.specs.Prelude.{ℕ, ℤ, pos, get_or, FitsSigned}
use Rattle.std.specs.Int.{w128}
use Rattle.std.proofs.Common.{rules}
use Rattle.std.proofs.lemmas.Int.{to_z-of_z}
use Rattle.lin_solver.proofs.WideLemmas.{wide_scaled}
use Rattle.lin_solver.proofs.extension.scale_values.Goals as goal

pub returns-in_default-clause-wide : goal.returns-in_default-clause-wide
returns-in_default-clause-wide c same =
    let d : ℕ × ℤ = (0, pos 0) in
    let value = (get_or c.args.values.now c.loop-var.var-index d).1 in
    let fits : FitsSigned w128 value = search rules in
    wide_scaled c.args.values.now c.args.scale c.loop-var.var-index d c.loop-var-test.true (rw (to_z-of_z w128 value fits, to_z-of_z w128 c.args.scale c.ranges.scale) at c.in_default.ensures)
