use Rattle.cond_plan.proofs.Asking.{from_more, from_all}
use Rattle.cond_plan.proofs.repair.first_repair.Goals as goal

pub loop-i-preserved : goal.loop-i-preserved
loop-i-preserved c =
    from_more c.args.p.now c.args.applications.now c.loop-i.i (c.in_default.ensures) c.loop-i.invariant

pub returns : goal.returns
returns c = from_all c.args.p.now c.args.applications.now c.loop-i.i c.loop-i-test.false c.loop-i.invariant
