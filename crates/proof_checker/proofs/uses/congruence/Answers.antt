use Rattle.proof_checker.specs.Chains.{facts}
use Rattle.proof_checker.specs.Uses.{application_of}
use Rattle.proof_checker.proofs.Applying.{congruence_some, congruence_none}
use Rattle.proof_checker.proofs.uses.congruence.Goals as goal

pub returns-in-Some-application-clause-some : goal.returns-in-Some-application-clause-some
returns-in-Some-application-clause-some c =
    congruence_some c.args.c.now (facts c.args.chain.now) c.args.i c.args.j (application_of c.in-Some.f) (application_of c.in-Some-application.g) c.in-Some.ensures.some c.in-Some-application.ensures.some c.follows.result c.follows.ensures

pub returns-in-Some-application-clause-none : goal.returns-in-Some-application-clause-none
returns-in-Some-application-clause-none c =
    congruence_none c.args.c.now (facts c.args.chain.now) c.args.i c.args.j (application_of c.in-Some.f) (application_of c.in-Some-application.g) c.in-Some.ensures.some c.in-Some-application.ensures.some c.follows.result c.follows.ensures
