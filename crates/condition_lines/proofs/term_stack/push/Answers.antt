use Rattle.std.proofs.Common.{ap, ◌∙◌}
use Rattle.condition_lines.specs.Written.{stacked}
use Rattle.condition_lines.proofs.Spelled.{stacked-push}
use Rattle.condition_lines.proofs.term_stack.push.Goals as goal

pub returns : goal.returns
returns c = ap stacked c.in_ok-push.ensures.ok ∙ stacked-push c.args.stack.now c.args.t
