use Rattle.std.proofs.Common.{◌≡◌, ◌+◌, ◌*◌, ◌≤◌, length, max, drop}
use denote.Param.Weighed.{most}
use Rattle.py_syntax.specs.declared.Expr.{size-Expr}
use Rattle.py_syntax.specs.declared.ExprForm.{size-ExprForm}
use Rattle.py_syntax.specs.ExprItems.{in_turn, expr_items}
use Rattle.machine_model.proofs.control.expr.+push_expr.Given as goal

-- the depths of the parts: expressions have that of the deepest
abbrev pub decreases-push_expr : goal.decreases-push_expr
decreases-push_expr l = 4 * size-Expr l.e.now

abbrev pub decreases-push_form : goal.decreases-push_form
decreases-push_form l = 4 * size-ExprForm l.form.now

abbrev pub decreases-push_then : goal.decreases-push_then
decreases-push_then l = 4 * size-Expr l.e.now + 1

abbrev pub decreases-push_exprs : goal.decreases-push_exprs
decreases-push_exprs l = 4 * most size-Expr l.all.now + 1

abbrev pub decreases-push_all_then : goal.decreases-push_all_then
decreases-push_all_then l = 4 * most size-Expr l.all.now + 2

abbrev pub decreases-push_both : goal.decreases-push_both
decreases-push_both l = 4 * max (size-Expr l.a.now) (size-Expr l.b.now) + 2

abbrev pub decreases-push_chain : goal.decreases-push_chain
decreases-push_chain l = 4 * most size-Expr l.all.now + 3

abbrev pub decreases-push_and : goal.decreases-push_and
decreases-push_and l = 4 * size-Expr l.a.now + 2

abbrev pub decreases-push_or : goal.decreases-push_or
decreases-push_or l = 4 * size-Expr l.a.now + 2

abbrev pub decreases-push_call : goal.decreases-push_call
decreases-push_call l = 4 * most size-Expr l.args.now + 3

abbrev pub decreases-push_send : goal.decreases-push_send
decreases-push_send l = 4 * max (size-Expr l.o.now) (most size-Expr l.args.now) + 3

abbrev pub decreases-push_new : goal.decreases-push_new
decreases-push_new l = 4 * most size-Expr l.args.now + 3

abbrev pub decreases-push_new_thread : goal.decreases-push_new_thread
decreases-push_new_thread l = 4 * max (size-Expr l.level.now) (most size-Expr l.args.now) + 3

abbrev pub invariant-push_exprs-loop-at : goal.invariant-push_exprs-loop-at
invariant-push_exprs-loop-at l = (l.at ≤ length l.all) × (l.control ≡ in_turn expr_items (drop l.at l.all) l.fn.control)

abbrev pub decreases-push_exprs-loop-at : goal.decreases-push_exprs-loop-at
decreases-push_exprs-loop-at l = l.at
