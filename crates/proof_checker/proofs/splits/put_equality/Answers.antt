use Rattle.std.proofs.Common.{sym, ap}
use Rattle.terms.specs.declared.Literal.{Literal}
use Rattle.proof_checker.specs.Chains.{compared, side_term, view_literal}
use Rattle.proof_checker.specs.Additions.{IsPutInto}
use Rattle.proof_checker.proofs.Sided.{found_at}
use Rattle.proof_checker.proofs.splits.put_equality.Goals as goal

pub returns-in-Sides : goal.returns-in-Sides
returns-in-Sides c =
    found_at (λ (l : Literal). IsPutInto l (view_literal c.args.into.now)) (compared c.in-Sides.kind (side_term c.in-Sides.a) (side_term c.in-Sides.b)) (view_literal c.args.equality.now) c.put_sides.result (sym (ap view_literal c.in-Sides.is)) c.put_sides.ensures
