use Rattle.std.specs.Prelude.{◌++◌, map, length}
use Rattle.std.proofs.Common.{ap, sym, ◌∙◌, arith}
use Rattle.std.proofs.lemmas.List.{length_push}
use Rattle.condition_lines.specs.Written.{joined, words_of, stacked}
use Rattle.condition_lines.proofs.Spelled.{taken}
use Rattle.condition_lines.proofs.term_stack.take_terms.Goals as goal

pub loop-taken-preserved : goal.loop-taken-preserved
loop-taken-preserved c =
    let l = c.loop-taken in
    let rest = c.pop.new.self in
    let e = ap length c.in_ok-push.ensures.ok in
    let f = length_push l.all c.in-Some.t in
    let g = l.invariant.1 in (
      taken (joined (map words_of c.args.all.now) ++ stacked c.args.stack.now) l.all l.stack rest c.in-Some.t l.invariant.0 c.in-Some.ensures ∙ ap (λ all. joined (map words_of all) ++ stacked rest) (sym c.in_ok-push.ensures.ok),
      omega (arith, e, f, g),
    )
