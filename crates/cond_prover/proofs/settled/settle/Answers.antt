use Rattle.std.proofs.Common.{subst}
use Rattle.cond_facts.specs.ReferenceValues.{AreReferencesOf}
use Rattle.cond_prover.proofs.settled.settle.Goals as goal

pub settle_flags-requires : goal.settle_flags-requires
settle_flags-requires c =
    subst (AreReferencesOf c.args.facts.now) c.in-Values.is (c.in_ok-d.ensures c.requires)
