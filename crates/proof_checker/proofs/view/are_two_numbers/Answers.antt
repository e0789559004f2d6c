use Rattle.proof_checker.specs.Chains.{side_term}
use Rattle.proof_checker.proofs.Sides.{numbers_false}
use Rattle.proof_checker.proofs.view.are_two_numbers.Goals as goal

pub returns-in-Some-reference_number : goal.returns-in-Some-reference_number
returns-in-Some-reference_number c =
    numbers_false (side_term c.args.a.now) (side_term c.args.b.now) c.in-Some.m c.in-Some-reference_number.n c.in-Some.ensures.some c.in-Some-reference_number.ensures.some
