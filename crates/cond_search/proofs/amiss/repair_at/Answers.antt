use Rattle.cond_search.proofs.Fitness.{applied_numbers, operands_settled, repair_along}
use Rattle.cond_search.proofs.amiss.repair_at.Goals as goal

pub first_repair-requires-clause-numbers : goal.first_repair-requires-clause-numbers
first_repair-requires-clause-numbers c =
    applied_numbers c.args.c.now c.args.plan.now c.args.facts.now c.as_slice.result.now c.as_slice.ensures c.requires.begun

pub first_repair-requires-clause-settled : goal.first_repair-requires-clause-settled
first_repair-requires-clause-settled c =
    operands_settled c.args.c.now c.args.plan.now c.args.facts.now c.as_slice.result.now c.args.p.now c.as_slice.ensures c.requires.begun c.requires.settled

pub returns : goal.returns
returns c =
    repair_along c.args.plan.now c.args.facts.now c.as_slice.result.now c.args.p.now c.first_repair.result c.as_slice.ensures c.first_repair.ensures
