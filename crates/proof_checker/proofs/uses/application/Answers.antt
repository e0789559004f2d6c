use Rattle.terms.specs.Fitting.{terms_in}
use Rattle.proof_checker.specs.Conditions.{literals_of}
use Rattle.proof_checker.specs.Uses.{application_of}
use Rattle.proof_checker.proofs.Applying.{is_numbered, not_numbered}
use Rattle.proof_checker.proofs.uses.application.Goals as goal

pub returns-in-Is-clause-some : goal.returns-in-Is-clause-some
returns-in-Is-clause-some c =
    is_numbered (terms_in (literals_of c.args.c.now)) c.args.n (application_of c.in-Is.found) c.in-Is.ensures

pub returns-in-Past-clause-none : goal.returns-in-Past-clause-none
returns-in-Past-clause-none c =
    not_numbered (terms_in (literals_of c.args.c.now)) c.args.n _ c.in-Past.ensures
