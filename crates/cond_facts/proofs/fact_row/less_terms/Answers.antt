use Rattle.std.specs.Prelude.{ℕ, ◌+◌, ℤ, pos, take, get_or, FitsSigned}
use Rattle.std.specs.Int.{w128}
use Rattle.std.proofs.Common.{rules, sym, subst}
use Rattle.std.proofs.lemmas.Int.{to_z-of_z}
use Rattle.lin_rows.specs.Terms.{IsNormal}
use Rattle.cond_facts.specs.Differences.{Lessens, LessFits}
use Rattle.cond_facts.proofs.Differing.{some_at, less_next, less_wide}
use Rattle.cond_facts.proofs.fact_row.less_terms.Goals as goal

pub less_term-requires-clause-some : goal.less_term-requires-clause-some
less_term-requires-clause-some c =
    let d : ℕ × ℤ = (0, pos 0) in
    let ts = c.as_slice-var-items.result.now in
    let i = c.loop-var.var-index in
    let fits : FitsSigned w128 (get_or ts i d).1 = search rules in
    let normal : IsNormal ts = subst IsNormal (sym c.as_slice-var-items.ensures.terms) c.as_slice-var-items.ensures.in_order in
    rw (to_z-of_z w128 (get_or ts i d).1 fits) (some_at d ts i c.loop-var-test.true normal)

pub returns-in-Err-clause-wide : goal.returns-in-Err-clause-wide
returns-in-Err-clause-wide c same all =
    let d : ℕ × ℤ = (0, pos 0) in
    let ts = c.as_slice-var-items.result.now in
    let i = c.loop-var.var-index in
    let is = c.as_slice-var-items.ensures.terms in
    let fits : FitsSigned w128 (get_or ts i d).1 = search rules in
    let normal : IsNormal ts = subst IsNormal (sym is) c.as_slice-var-items.ensures.in_order in
    let before : Lessens c.args.row (take i ts) c.loop-var.rest = subst (λ z. Lessens c.args.row (take i z) c.loop-var.rest) (sym is) c.loop-var.invariant in
    let wide = rw (to_z-of_z w128 (get_or ts i d).1 fits) at (c.in-Err.ensures.wide same) in
    less_wide d c.args.row c.loop-var.rest ts i c.loop-var-test.true normal before wide (subst (LessFits c.args.row.coefs) (sym is) all)

pub loop-var-preserved : goal.loop-var-preserved
loop-var-preserved c =
    let d : ℕ × ℤ = (0, pos 0) in
    let ts = c.as_slice-var-items.result.now in
    let i = c.loop-var.var-index in
    let is = c.as_slice-var-items.ensures.terms in
    let fits : FitsSigned w128 (get_or ts i d).1 = search rules in
    let before : Lessens c.args.row (take i ts) c.loop-var.rest = subst (λ z. Lessens c.args.row (take i z) c.loop-var.rest) (sym is) c.loop-var.invariant in
    let one = rw (to_z-of_z w128 (get_or ts i d).1 fits) at c.in-Ok.ensures.less in
    subst (λ z. Lessens c.args.row (take (i + 1) z) c.in-Ok.less) is (less_next d c.args.row c.loop-var.rest c.in-Ok.less ts i c.loop-var-test.true before one)
