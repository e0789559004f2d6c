use Rattle.proof_checker.specs.Chains.{side_term, view_literal}
use Rattle.proof_checker.proofs.Sides.{replaced_forth, replaced_back}
use Rattle.proof_checker.proofs.view.replaced.Goals as goal

pub returns-then-stands_in_view : goal.returns-then-stands_in_view
returns-then-stands_in_view c =
    replaced_forth (side_term c.args.a.now) (side_term c.args.b.now) (view_literal c.args.v.now) (c.stands_in_view.ensures.0 c.if-stands_in_view.true) (view_literal c.put_in_view.result) c.put_in_view.ensures

pub returns-else-stands_in_view : goal.returns-else-stands_in_view
returns-else-stands_in_view c =
    replaced_back (side_term c.args.a.now) (side_term c.args.b.now) (view_literal c.args.v.now) (λ s. let on = c.stands_in_view.ensures.1 s in absurd (cc (on, c.if-stands_in_view.false))) (view_literal c.put_in_view-else-stands_in_view.result) c.put_in_view-else-stands_in_view.ensures
