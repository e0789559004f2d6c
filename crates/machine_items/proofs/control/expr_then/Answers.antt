use Rattle.std.proofs.Common.{drop}
use Rattle.machine_items.proofs.Laid.{expr_before}
use Rattle.machine_items.proofs.control.expr_then.Goals as goal

pub returns : goal.returns
returns c =
    expr_before c.args.e.now c.args.item c.push_expr.new.control c.push.new.self c.new-items.result (drop c.args.at.taken c.args.at.frame.now.control)
    c.in_ok-push_expr.ensures c.in_ok-push.ensures.ok c.new-items.ensures
