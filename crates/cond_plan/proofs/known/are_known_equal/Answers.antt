use Rattle.cond_plan.proofs.Knowing.{equal_told}
use Rattle.cond_plan.proofs.known.are_known_equal.Goals as goal

pub returns-in-Far : goal.returns-in-Far
returns-in-Far c =
    equal_told c.args.p.now c.args.facts.now c.args.a.now c.args.b.now c.are_assumed.result c.requires.met c.requires.numbers c.are_assumed.ensures
