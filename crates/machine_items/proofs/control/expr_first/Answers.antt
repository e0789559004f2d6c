use Rattle.std.proofs.Common.{drop}
use Rattle.machine_items.proofs.Laid.{expr_alone}
use Rattle.machine_items.proofs.control.expr_first.Goals as goal

pub returns : goal.returns
returns c = expr_alone c.args.e.now c.push_expr.new.control c.new-items.result (drop c.args.at.taken c.args.at.frame.now.control) c.in_ok-push_expr.ensures c.new-items.ensures
