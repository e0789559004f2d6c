use Rattle.cond_search.proofs.Fitness.{compared_numbers, needed_along}
use Rattle.cond_search.proofs.amiss.need_at.Goals as goal

pub first_need-requires-clause-numbers : goal.first_need-requires-clause-numbers
first_need-requires-clause-numbers c =
    compared_numbers c.args.c.now c.args.plan.now c.args.facts.now c.as_slice.result.now c.as_slice.ensures c.requires.begun

pub returns : goal.returns
returns c =
    needed_along c.args.plan.now c.args.facts.now c.as_slice.result.now c.args.p.now c.first_need.result c.as_slice.ensures c.first_need.ensures
