use Rattle.cond_search.proofs.Fitness.{point_fits}
use Rattle.cond_search.proofs.amiss.amiss_at.Goals as goal

pub returns-in-None-repair_at : goal.returns-in-None-repair_at
returns-in-None-repair_at c =
    point_fits c.args.c.now c.args.plan.now c.args.facts.now c.args.p.now c.requires.begun c.requires.met c.in-None.ensures c.in-None-repair_at.ensures
