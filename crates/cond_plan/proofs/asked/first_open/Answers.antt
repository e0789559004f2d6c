use Rattle.std.specs.Prelude.{◌<◌, length}
use Rattle.std.proofs.Common.{arith}
use Rattle.cond_plan.proofs.Asking.{equal_more}
use Rattle.cond_plan.proofs.asked.first_open.Goals as goal

pub loop-k-preserved : goal.loop-k-preserved
loop-k-preserved c =
    let less : c.loop-k.k < length c.args.ys.now = omega arith in
    equal_more c.args.facts.now c.args.xs.now c.args.ys.now c.loop-k.k c.index-xs-k.result c.index-ys-k.result c.loop-k-test.true less c.index-xs-k.is c.index-ys-k.is c.loop-k.invariant c.if-not-are_operands_equal.ensures
