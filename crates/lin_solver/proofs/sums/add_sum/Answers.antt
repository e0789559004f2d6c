use Rattle.std.specs.Prelude.{◌≡◌, ◌+◌, length}
use Rattle.std.proofs.Common.{rules}
use Rattle.lin_solver.proofs.StepLemmas.{step_kept, step_live, step_sum}
use Rattle.lin_solver.proofs.sums.add_sum.Goals as goal

pub returns-then-refuted-clause-kept : goal.returns-then-refuted-clause-kept
returns-then-refuted-clause-kept c h =
    step_kept c.args.rows.now c.args.steps.now c.push.new.self c.in_ok-step.step c.in_ok-push.ensures.ok (rw c.as_slice.ensures at c.in_ok-step.ensures.holds) h

pub returns-clause-kept : goal.returns-clause-kept
returns-clause-kept c h =
    step_kept c.args.rows.now c.args.steps.now c.push.new.self c.in_ok-step.step c.in_ok-push.ensures.ok (rw c.as_slice.ensures at c.in_ok-step.ensures.holds) h

pub returns-clause-live : goal.returns-clause-live
returns-clause-live c =
    let at : c.in_ok-number.number ≡ length c.args.rows.now + length c.args.steps.now = search rules in
    step_live c.args.rows.now c.args.steps.now c.push.new.self c.in_ok-step.step c.args.var c.args.left c.args.right c.in_ok-number.number c.in_ok-push.ensures.ok at c.requires.left c.requires.right (rw c.as_slice.ensures at c.in_ok-step.ensures.sum) (search rules)

pub returns-clause-sum : goal.returns-clause-sum
returns-clause-sum c =
    let at : c.in_ok-number.number ≡ length c.args.rows.now + length c.args.steps.now = search rules in
    step_sum c.args.rows.now c.args.steps.now c.push.new.self c.in_ok-step.step c.args.var c.args.left c.args.right c.in_ok-number.number c.in_ok-push.ensures.ok at (rw c.as_slice.ensures at c.in_ok-step.ensures.sum)
