use Rattle.std.specs.Prelude.{◌≡◌, ◌∷◌, ◌++◌, ℤ, OnOk, codes, FitsSigned}
use Rattle.std.specs.Int.{w128}
use Rattle.std.proofs.Common.{subst, rules}
use Rattle.std.proofs.lemmas.Int.{to_z-of_z}
use Rattle.terms.specs.declared.Term.{Scale}
use Rattle.condition_lines.specs.Written.{words_of, stacked}
use Rattle.condition_lines.proofs.Spelled.{pushed, of_multiple}
use Rattle.condition_lines.proofs.term_stack.scale.Goals as goal

pub returns : goal.returns
returns c =
    let k = c.in-Some.k in
    let b = c.in_ok-a.a in
    let s = c.pop.new.self in
    let fits : FitsSigned w128 k = search rules in
    let P : ℤ → Type 0 = λ z. OnOk c.push.result (stacked c.push.new.stack ≡ words_of (Scale z b) ++ stacked s) in
    pushed c.push.result (stacked s) c.push.new.stack (words_of (Scale k b)) (codes "*" ∷ stacked c.args.stack.now) (of_multiple (stacked c.args.stack.now) k c.pop_number.new.stack s c.in-Some-pop.a b c.in-Some.ensures c.in-Some-pop.ensures c.in_ok-a.ensures) (subst P (to_z-of_z w128 k fits) c.push.ensures)
