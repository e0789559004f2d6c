use Rattle.std.specs.Prelude.{◌∷◌, codes}
use Rattle.condition_lines.specs.Written.{words_of, stacked}
use Rattle.condition_lines.proofs.Spelled.{pushed, of_sum}
use Rattle.condition_lines.proofs.term_stack.add.Goals as goal

pub returns : goal.returns
returns c =
    let t = c.in_ok-sum.field-0 in
    let s = c.pop-2.new.self in
    pushed c.push.result (stacked s) c.push.new.stack (words_of t) (codes "+" ∷ stacked c.args.stack.now) (of_sum c.args.stack.now c.pop.new.self s c.in-Some.a c.in-Some-pop.b t c.in-Some.ensures c.in-Some-pop.ensures c.in_ok-sum.ensures) c.push.ensures
