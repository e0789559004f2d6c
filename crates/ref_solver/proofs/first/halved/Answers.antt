use Rattle.std.proofs.Common.{◌≡◌, false, true, sym, ◌∙◌}
use Rattle.ref_solver.proofs.Finding.{between_lower, between_upper}
use Rattle.ref_solver.proofs.first.halved.Goals as goal

pub returns-then-branch-clause-between : goal.returns-then-branch-clause-between
returns-then-branch-clause-between c =
    between_lower c.args.lits.now c.args.low c.args.middle c.args.high c.requires.order.0 c.requires.order.1 c.requires.between (c.in_ok-do_clash.ensures.0 c.if-branch.true)

pub returns-else-branch-clause-between : goal.returns-else-branch-clause-between
returns-else-branch-clause-between c =
    between_upper c.args.lits.now c.args.low c.args.middle c.args.high c.requires.order.0 c.requires.order.1 c.requires.between (λ h. let yes : false ≡ true = sym c.if-branch.false ∙ c.in_ok-do_clash.ensures.1 h in absurd (cc))
