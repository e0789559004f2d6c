use Rattle.cond_plan.proofs.Asking.{settled_along, differ_along, operands_differ}
use Rattle.cond_plan.proofs.asked.asked_of.Goals as goal

pub do_differ-requires-clause-settled : goal.do_differ-requires-clause-settled
do_differ-requires-clause-settled c =
    settled_along c.args.p.now c.args.facts.now c.args.f.now.operands c.args.g.now.operands c.as_slice-xs.result.now c.as_slice-ys.result.now c.as_slice-xs.ensures c.as_slice-ys.ensures (c.requires.settled c.if-f-g.false)

pub returns-then-do_differ : goal.returns-then-do_differ
returns-then-do_differ c = λ _.
    operands_differ c.args.p.now c.args.f.now c.args.g.now (differ_along c.args.p.now c.args.f.now.operands c.args.g.now.operands c.as_slice-xs.result.now c.as_slice-ys.result.now c.as_slice-xs.ensures c.as_slice-ys.ensures c.if-do_differ.ensures)
