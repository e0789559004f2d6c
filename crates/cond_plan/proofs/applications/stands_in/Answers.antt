use Rattle.terms.specs.Fitting.{sides_of}
use Rattle.cond_plan.proofs.Standing.{stands_second}
use Rattle.cond_plan.proofs.applications.stands_in.Goals as goal

pub returns-else-stands_within : goal.returns-else-stands_within
returns-else-stands_within c =
    stands_second (sides_of c.args.l.now) c.in-Some.a.now c.in-Some.b.now c.args.t.now c.stands_within.result c.stands_within-else-stands_within.result c.in-Some.ensures c.stands_within.ensures c.if-stands_within.false c.stands_within-else-stands_within.ensures
