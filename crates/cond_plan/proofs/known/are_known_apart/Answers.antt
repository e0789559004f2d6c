use Rattle.cond_plan.proofs.Knowing.{below_apart, above_apart}
use Rattle.cond_plan.proofs.known.are_known_apart.Goals as goal

pub returns-then-are_assumed : goal.returns-then-are_assumed
returns-then-are_assumed c =
    below_apart c.args.p.now c.args.facts.now c.args.a.now c.args.b.now c.requires.met c.requires.numbers (c.are_assumed.ensures.0 c.if-are_assumed.true)

pub returns-then-are_assumed-2 : goal.returns-then-are_assumed-2
returns-then-are_assumed-2 c =
    above_apart c.args.p.now c.args.facts.now c.args.a.now c.args.b.now c.requires.met c.requires.numbers (c.are_assumed-else-are_assumed.ensures.0 c.if-are_assumed-2.true)
