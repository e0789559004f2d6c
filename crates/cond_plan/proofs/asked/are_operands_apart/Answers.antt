use Rattle.cond_plan.proofs.asked.are_operands_apart.Goals as goal

pub returns-then-are_assumed : goal.returns-then-are_assumed
returns-then-are_assumed c = c.requires.settled (c.are_assumed.ensures.0 c.if-are_assumed.true)
