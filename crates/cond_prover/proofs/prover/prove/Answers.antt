use Rattle.cond_prover.proofs.Answering.{meant}
use Rattle.cond_prover.proofs.prover.prove.Goals as goal

pub returns-clause-meaning : goal.returns-clause-meaning
returns-clause-meaning c =
    meant c.derived_conditions_hold.ensures c.args.c.now _ c.requires.sorted c.in_ok-proof.ensures.proof
