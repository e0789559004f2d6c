use Rattle.std.specs.Prelude.{◌≡◌}
use Rattle.std.proofs.Common.{arith}
use Rattle.lin_solver.proofs.DescentLemmas.{ready_at, reaches_at, reaches_end, solution}
use Rattle.lin_solver.proofs.way_back.way_back.Goals as goal

pub loop-left-init : goal.loop-left-init
loop-left-init c = record {
  within = omega arith;
  reaches = reaches_end c.args.rows.now c.args.steps.now c.args.levels.now c.new.result c.new.ensures;
}

pub extend-requires : goal.extend-requires
extend-requires c =
    ready_at c.args.rows.now c.args.steps.now c.args.levels.now c.loop-left.left _ c.index-levels-left.result c.loop-left.point c.requires c.loop-left-test.true c.loop-left.invariant.within c.index-levels-left.is c.loop-left.invariant.reaches

pub loop-left-preserved : goal.loop-left-preserved
loop-left-preserved c =
    let inv = c.loop-left.invariant in record {
      within = omega arith;
      reaches = reaches_at c.args.rows.now c.args.steps.now c.args.levels.now c.loop-left.left _ c.index-levels-left.result c.loop-left.point c.in_ok-point.point c.loop-left-test.true inv.within c.index-levels-left.is inv.reaches c.in_ok-point.ensures.reached;
    }

pub returns-clause-point : goal.returns-clause-point
returns-clause-point c =
    let none : c.loop-left.left ≡ 0 = omega arith in
    solution c.args.rows.now c.args.steps.now c.args.levels.now c.loop-left.point c.requires (rw none at c.loop-left.invariant.reaches)
