use Rattle.std.proofs.Common.{[], ◌∷◌, ap, sym, ◌∙◌, true, false}
use Rattle.terms.specs.Fitting.{sides_of, within_sides}
use Rattle.terms.specs.Within.{terms_within}
use Rattle.proof_checker.specs.Views.{has}
use Rattle.proof_checker.specs.Uses.{seen}
use Rattle.proof_checker.proofs.Counting.{seen-More, seen-Within, seen-Sides, has_last, has_others, has_one}
use Rattle.proof_checker.proofs.walk.+has_before.Goals as goal

pub returns-then-same_terms : goal.returns-then-same_terms
returns-then-same_terms t c =
    let e = ap seen c.in-More.is ∙ seen-More c.in-More.older c.in-More.u in
    let u = c.in-More.u.now in
    let v = c.args.t.now in
    sym (ap (λ z. has z v) e ∙ has_last (seen c.in-More.older.now) (u ∷ []) v (has_one u v true (sym c.same_terms.ensures ∙ c.if-same_terms.true)))

pub returns-else-same_terms : goal.returns-else-same_terms
returns-else-same_terms t c =
    let e = ap seen c.in-More.is ∙ seen-More c.in-More.older c.in-More.u in
    let u = c.in-More.u.now in
    let v = c.args.t.now in
    c.has_before.ensures
    ∙ sym (ap (λ z. has z v) e ∙ has_others (seen c.in-More.older.now) (u ∷ []) v (has_one u v false (sym c.same_terms.ensures ∙ c.if-same_terms.false)))

pub returns-then-stands_within : goal.returns-then-stands_within
returns-then-stands_within t c =
    let e = ap seen c.in-Within.is ∙ seen-Within c.in-Within.older c.in-Within.u in
    let v = c.args.t.now in
    sym (ap (λ z. has z v) e ∙ has_last (seen c.in-Within.older.now) (terms_within c.in-Within.u.now) v (sym c.stands_within.ensures ∙ c.if-stands_within.true))

pub returns-else-stands_within : goal.returns-else-stands_within
returns-else-stands_within t c =
    let e = ap seen c.in-Within.is ∙ seen-Within c.in-Within.older c.in-Within.u in
    let v = c.args.t.now in
    c.has_before-else-stands_within.ensures
    ∙ sym (ap (λ z. has z v) e ∙ has_others (seen c.in-Within.older.now) (terms_within c.in-Within.u.now) v (sym c.stands_within.ensures ∙ c.if-stands_within.false))

pub returns-then-stands_in_sides : goal.returns-then-stands_in_sides
returns-then-stands_in_sides t c =
    let e = ap seen c.in-Sides.is ∙ seen-Sides c.in-Sides.older c.in-Sides.l in
    let v = c.args.t.now in
    sym (ap (λ z. has z v) e ∙ has_last (seen c.in-Sides.older.now) (within_sides (sides_of c.in-Sides.l.now)) v (sym c.stands_in_sides.ensures ∙ c.if-stands_in_sides.true))

pub returns-else-stands_in_sides : goal.returns-else-stands_in_sides
returns-else-stands_in_sides t c =
    let e = ap seen c.in-Sides.is ∙ seen-Sides c.in-Sides.older c.in-Sides.l in
    let v = c.args.t.now in
    c.has_before-else-stands_in_sides.ensures
    ∙ sym (ap (λ z. has z v) e ∙ has_others (seen c.in-Sides.older.now) (within_sides (sides_of c.in-Sides.l.now)) v (sym c.stands_in_sides.ensures ∙ c.if-stands_in_sides.false))
