use Rattle.std.specs.Int.{w128}
use Rattle.std.proofs.lemmas.Int.{to_z-of_z}
use Rattle.lin_solver.proofs.LowestLemmas.{divisor_positive, all_at_bound, wide_bound_of}
use Rattle.lin_solver.proofs.extension.at_bound.Goals as goal

pub nonzero_div-bottom : goal.nonzero_div-bottom
nonzero_div-bottom c =
    let top = rw (to_z-of_z w128 c.args.room c.ranges.room) at c.unsigned_abs-top.ensures.value in
    divisor_positive c.args.room c.args.coef _ _ c.gcd-divisor.result c.requires.room top c.gcd-divisor.ensures

pub nonzero_div-top : goal.nonzero_div-top
nonzero_div-top c =
    let top = rw (to_z-of_z w128 c.args.room c.ranges.room) at c.unsigned_abs-top.ensures.value in
    divisor_positive c.args.room c.args.coef _ _ c.gcd-divisor.result c.requires.room top c.gcd-divisor.ensures

pub returns-clause-ok : goal.returns-clause-ok
returns-clause-ok c =
    let top = rw (to_z-of_z w128 c.args.room c.ranges.room) at c.unsigned_abs-top.ensures.value in
    let bottom = rw (to_z-of_z w128 c.args.coef c.ranges.coef) at c.unsigned_abs-bottom.ensures.value in
    all_at_bound c.extended.result c.args.point.now c.args.room c.args.coef c.args.var _ _ c.gcd-divisor.result c.requires.room c.requires.coef top bottom c.gcd-divisor.ensures (rw (to_z-of_z w128 c.args.coef c.ranges.coef) at c.extended.ensures.ok)

pub returns-clause-wide : goal.returns-clause-wide
returns-clause-wide c =
    let top = rw (to_z-of_z w128 c.args.room c.ranges.room) at c.unsigned_abs-top.ensures.value in
    let bottom = rw (to_z-of_z w128 c.args.coef c.ranges.coef) at c.unsigned_abs-bottom.ensures.value in
    wide_bound_of c.extended.result c.args.point.now c.args.room c.args.coef c.args.var _ _ c.gcd-divisor.result c.requires.room c.requires.coef top bottom c.gcd-divisor.ensures (rw (to_z-of_z w128 c.args.coef c.ranges.coef) at c.extended.ensures.wide)
