use Rattle.cond_search.proofs.Proposing.{comparison_within, comparison_proposed}
use Rattle.cond_search.proofs.next.comparison_step.Goals as goal

pub comparison_at-k-requires : goal.comparison_at-k-requires
comparison_at-k-requires c =
    comparison_within c.args.facts.now c.args.plan.now c.args.needed c.requires.needed

pub split_step-requires-clause-proposed : goal.split_step-requires-clause-proposed
split_step-requires-clause-proposed c =
    comparison_proposed c.args.c.now c.args.plan.now c.args.facts.now c.args.needed c.comparison_at-k.result.now c.in_ok-split.split c.requires.begun c.requires.needed c.comparison_at-k.ensures c.in_ok-split.ensures
