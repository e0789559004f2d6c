use Rattle.std.proofs.Common.{ap}
use Rattle.proof_checker.specs.declared.Derivation.{Congruent}
use Rattle.cond_search.proofs.Branching.{congruence_decided, fits_decided}
use Rattle.cond_search.proofs.derived.with_congruence.Goals as goal

pub returns-in_ok-d-in-Refuted-clause-answer : goal.returns-in_ok-d-in-Refuted-clause-answer
returns-in_ok-d-in-Refuted-clause-answer c =
    let k = c.args.congruence.now in
    congruence_decided c.args.c.now c.args.facts.now k c.in-Refuted.d _ c.args.rest c.in-Refuted.is (ap (Congruent k.left k.right) c.in_ok-d-in-Refuted.ensures) c.requires.congruence c.requires.rest

pub returns-in-Fits-clause-answer : goal.returns-in-Fits-clause-answer
returns-in-Fits-clause-answer c =
    fits_decided c.args.c.now c.args.facts.now c.args.congruence.now.results c.args.rest c.in-Fits.p c.in-Fits.is c.requires.rest
