use Rattle.std.proofs.Common.{rules, ◌≡◌, ◌+◌, length, ap, ◌∙◌, arith}
use Rattle.std.proofs.lemmas.Grind.{common_steps}
use Rattle.std.proofs.lemmas.Option.{slice_get_past}
use Rattle.std.specs.Prelude.{slice_get}
use Rattle.proof_checker.specs.Chains.{facts, view_literal}
use Rattle.proof_checker.proofs.Chained.{facts-More, slice_front, slice_last}
use Rattle.proof_checker.proofs.chain.+find.Goals as goal

pub returns-in-Is : goal.returns-in-Is
returns-in-Is t c =
    let e = ap facts c.in-More.is ∙ facts-More c.in-More.before c.in-More.view in
    ap (λ fs. slice_get fs c.args.n) e ∙ slice_front (facts c.in-More.before.now) (view_literal c.in-More.view) (view_literal c.in-Is.found.now) c.args.n (search rules)

pub returns-then-left-eq0 : goal.returns-then-left-eq0
returns-then-left-eq0 t c =
    let e = ap facts c.in-More.is ∙ facts-More c.in-More.before c.in-More.view in
    let past = c.in-Past.ensures.1 in
    ap (λ fs. slice_get fs c.args.n) e ∙ slice_last (facts c.in-More.before.now) (view_literal c.in-More.view) c.args.n (omega arith)

pub returns-else-left-eq0 : goal.returns-else-left-eq0
returns-else-left-eq0 t c =
    let e = ap facts c.in-More.is ∙ facts-More c.in-More.before c.in-More.view in
    let past : c.args.n ≡ length (facts c.in-More.before.now) + c.in-Past.left = c.in-Past.ensures.1 in
    let longer : length (facts c.args.chain.now) ≡ length (facts c.in-More.before.now) + 1 = ap length e ∙ grind (arith, common_steps) in
    (slice_get_past (facts c.args.chain.now) c.args.n (omega arith), omega arith)
