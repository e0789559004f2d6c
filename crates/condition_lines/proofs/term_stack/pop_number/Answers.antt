use Rattle.condition_lines.proofs.Spelled.{popped}
use Rattle.condition_lines.proofs.term_stack.pop_number.Goals as goal

pub returns : goal.returns
returns c =
    popped c.number_in-number.result c.args.stack.now c.pop.new.self c.in_ok-first.first c.in_ok-first.ensures c.number_in-number.ensures
