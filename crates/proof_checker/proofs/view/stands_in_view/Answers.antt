use Rattle.std.proofs.Common.{ap}
use Rattle.proof_checker.specs.Chains.{side_term, view_literal}
use Rattle.proof_checker.proofs.Sides.{stands_second}
use Rattle.proof_checker.proofs.view.stands_in_view.Goals as goal

pub returns-else-stands_in_side : goal.returns-else-stands_in_side
returns-else-stands_in_side c =
    stands_second c.in-Sides.field-0 (side_term c.args.a.now) (side_term c.in-Sides.b) (side_term c.in-Sides.c) c.stands_in_side.result c.stands_in_side-else-stands_in_side.result c.stands_in_side.ensures.1 c.stands_in_side-else-stands_in_side.ensures c.if-stands_in_side.false (view_literal c.args.v.now) (ap view_literal c.in-Sides.is)
