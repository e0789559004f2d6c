use Rattle.cond_search.proofs.Proposing.{congruence_within, congruence_proposed}
use Rattle.cond_search.proofs.next.congruence_step.Goals as goal

pub applied_at-f-requires : goal.applied_at-f-requires
applied_at-f-requires c =
    (congruence_within c.args.facts.now c.args.plan.now.applications c.args.i c.args.j c.requires.repair).0

pub applied_at-g-requires : goal.applied_at-g-requires
applied_at-g-requires c =
    (congruence_within c.args.facts.now c.args.plan.now.applications c.args.i c.args.j c.requires.repair).1

pub results_step-requires-clause-proposed : goal.results_step-requires-clause-proposed
results_step-requires-clause-proposed c =
    congruence_proposed c.args.c.now c.args.plan.now c.args.facts.now c.args.i c.args.j c.applied_at-f.result.now c.applied_at-g.result.now _ c.requires.begun c.requires.repair c.applied_at-f.ensures c.applied_at-g.ensures c.in_ok-left.ensures c.in_ok-right.ensures c.in_ok-results.ensures
