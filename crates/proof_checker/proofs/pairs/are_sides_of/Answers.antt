use Rattle.terms.specs.Fitting.{sides_of}
use Rattle.proof_checker.proofs.Pairing.{sides_iff}
use Rattle.proof_checker.proofs.pairs.are_sides_of.Goals as goal

pub returns-in-Some : goal.returns-in-Some
returns-in-Some c =
    sides_iff (sides_of c.args.l.now) c.in-Some.x.now c.in-Some.y.now c.args.a.now c.args.b.now c.are_both.result c.in-Some.ensures c.are_both.ensures
