use Rattle.std.proofs.Common.{◌||◌, ap, sym, ◌∙◌}
use Rattle.terms.specs.Fitting.{within_sides}
use Rattle.terms.specs.Within.{terms_within}
use Rattle.proof_checker.specs.Views.{has}
use Rattle.proof_checker.proofs.Reading.{has-append}
use Rattle.proof_checker.proofs.walk.stands_in_sides.Goals as goal

pub returns-then-stands_within : goal.returns-then-stands_within
returns-then-stands_within c =
    let t = c.args.t.now in
    let a = terms_within c.in-Some.a.now in
    let b = terms_within c.in-Some.b.now in
    sym (ap (λ o. has (within_sides o) t) c.in-Some.ensures ∙ has-append a b t ∙ ap (λ z. z || has b t) (sym c.stands_within.ensures ∙ c.if-stands_within.true))

pub returns-else-stands_within : goal.returns-else-stands_within
returns-else-stands_within c =
    let t = c.args.t.now in
    let a = terms_within c.in-Some.a.now in
    let b = terms_within c.in-Some.b.now in
    c.stands_within-else-stands_within.ensures
    ∙ sym (ap (λ o. has (within_sides o) t) c.in-Some.ensures ∙ has-append a b t ∙ ap (λ z. z || has b t) (sym c.stands_within.ensures ∙ c.if-stands_within.false))
