use Rattle.proof_checker.specs.Chains.{facts}
use Rattle.proof_checker.proofs.Sided.{not_split}
use Rattle.proof_checker.proofs.splits.split_apart.Goals as goal

pub returns-else-are_assumed_apart : goal.returns-else-are_assumed_apart
returns-else-are_assumed_apart c =
    not_split (facts c.args.chain.now) c.args.first.now c.args.b.now c.in-Some.x.now c.in-Some.ensures (λ h. let on = c.are_assumed_apart.ensures.1 h in absurd (cc (on, c.if-are_assumed_apart.false)))
