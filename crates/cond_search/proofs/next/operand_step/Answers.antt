use Rattle.cond_search.proofs.Proposing.{first_within, second_within, left_within, right_within, operand_proposed}
use Rattle.cond_search.proofs.next.operand_step.Goals as goal

pub applied_at-f-requires : goal.applied_at-f-requires
applied_at-f-requires c =
    first_within c.args.facts.now c.args.plan.now.applications c.args.i c.args.j c.args.k c.requires.repair

pub applied_at-g-requires : goal.applied_at-g-requires
applied_at-g-requires c =
    second_within c.args.facts.now c.args.plan.now.applications c.args.i c.args.j c.args.k c.requires.repair

pub operand_at-a-requires : goal.operand_at-a-requires
operand_at-a-requires c =
    left_within c.args.facts.now c.args.plan.now.applications c.args.i c.args.j c.args.k c.requires.repair c.applied_at-f.result.now c.applied_at-f.ensures

pub operand_at-b-requires : goal.operand_at-b-requires
operand_at-b-requires c =
    right_within c.args.facts.now c.args.plan.now.applications c.args.i c.args.j c.args.k c.requires.repair c.applied_at-g.result.now c.applied_at-g.ensures

pub split_step-requires-clause-proposed : goal.split_step-requires-clause-proposed
split_step-requires-clause-proposed c =
    operand_proposed c.args.c.now c.args.plan.now c.args.facts.now c.args.i c.args.j c.args.k c.applied_at-f.result.now c.applied_at-g.result.now c.operand_at-a.result.now c.operand_at-b.result.now c.in_ok-split.split c.requires.begun c.requires.repair c.applied_at-f.ensures c.applied_at-g.ensures c.operand_at-a.ensures c.operand_at-b.ensures c.in_ok-split.ensures.first c.in_ok-split.ensures.second
