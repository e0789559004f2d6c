use Rattle.std.specs.Prelude.{◌≡◌, ℤ, pos, ◌+◌, FitsSigned}
use Rattle.std.specs.Int.{w128}
use Rattle.std.proofs.Common.{rules, sym, ap, ◌∙◌, to_z, of_z}
use Rattle.std.proofs.lemmas.Int.{to_z-of_z}
use Rattle.lin_rows.proofs.MergeLemmas.{mixes_in_order, mixes_one, mixes_none, mixes_wide, mixes_last, mixes_fit}
use Rattle.lin_rows.proofs.combination.combine.Goals as goal
use Rattle.lin_rows.proofs.combination.combine.Goals.{then-coef-ne0+in_ok-push, else-coef-ne0}

-- a number is 0 where its bits are
is_none : (z : ℤ) → FitsSigned w128 z → of_z w128 z ≡ 0 → z ≡ pos 0
is_none z f e = sym (to_z-of_z w128 z f) ∙ ap (to_z w128) e

pub returns-in_default-mix-clause-wide : goal.returns-in_default-mix-clause-wide
returns-in_default-mix-clause-wide c same fits =
    let n = c.in-Some.next in
    let (low, mixes) = c.terms.invariant in
    let fx : FitsSigned w128 n.left = search rules in
    let fy : FitsSigned w128 n.right = search rules in
    let wide = rw (to_z-of_z w128 n.left fx, to_z-of_z w128 n.right fy) at c.in_default-mix.ensures in
    mixes_wide _ _ _ _ low c.terms.coefs _ _ n.var n.left n.right _ _ c.in-Some.ensures.least wide mixes (rw (to_z-of_z w128 c.args.by_left c.ranges.by_left, to_z-of_z w128 c.args.by_right c.ranges.by_right) fits.coefs)

pub push-requires : goal.push-requires
push-requires c =
    let n = c.in-Some.next in
    let (low, mixes) = c.terms.invariant in
    let fits : FitsSigned w128 c.in-Some-mix.coef = search rules in
    rw (to_z-of_z w128 c.in-Some-mix.coef fits) (mixes_in_order _ _ _ _ low c.terms.coefs _ _ n.var n.left n.right c.in-Some-mix.coef _ _ c.in-Some.ensures.least (λ e. c.if-coef-ne0.true (ap (of_z w128) e)) mixes)

pub terms-preserved : goal.terms-preserved
terms-preserved c =
    let n = c.in-Some.next in
    let coef = c.in-Some-mix.coef in
    let (low, mixes) = c.terms.invariant in
    let fx : FitsSigned w128 n.left = search rules in
    let fy : FitsSigned w128 n.right = search rules in
    let fits : FitsSigned w128 coef = search rules in
    let (here, is) = rw (to_z-of_z w128 n.left fx, to_z-of_z w128 n.right fy) at c.in-Some-mix.ensures in
    elim c.if-coef-ne0.branch [
      | then-coef-ne0+in_ok-push w ↦
          let grown = rw (to_z-of_z w128 coef fits) at w.in_ok-push.ensures.ok in
          (n.var + 1, mixes_one _ _ _ _ low c.terms.coefs _ _ n.var n.left n.right coef _ _ c.if-coef-ne0.coefs c.in-Some.ensures.least here is (λ e. w.if-coef-ne0.true (ap (of_z w128) e)) (w.coefs-is ∙ grown) mixes)
      | else-coef-ne0 w ↦
          let none : coef ≡ pos 0 = is_none coef fits w.if-coef-ne0.false in
          (n.var + 1, rw (w.coefs-is) (mixes_none _ _ _ _ low c.terms.coefs _ _ n.var n.left n.right _ _ c.in-Some.ensures.least here (sym none ∙ is) mixes))
    ]

pub returns-in-None-clause-wide : goal.returns-in-None-clause-wide
returns-in-None-clause-wide c same fits =
    let fa : FitsSigned w128 c.args.a.now.bound = search rules in
    let fb : FitsSigned w128 c.args.b.now.bound = search rules in
    let wide = rw (to_z-of_z w128 c.args.by_left c.ranges.by_left, to_z-of_z w128 c.args.by_right c.ranges.by_right, to_z-of_z w128 c.args.a.now.bound fa, to_z-of_z w128 c.args.b.now.bound fb) at c.in-None.ensures in
    wide fits.bound

pub returns-in-Some-mix-2-clause-sum : goal.returns-in-Some-mix-2-clause-sum
returns-in-Some-mix-2-clause-sum c =
    let (low, mixes) = c.terms.invariant in
    let (none_left, none_right) = c.in_default.ensures.none in
    let coefs = mixes_last _ _ _ _ low c.terms.coefs _ _ none_left none_right mixes in
    let left = to_z-of_z w128 c.args.by_left c.ranges.by_left in
    let right = to_z-of_z w128 c.args.by_right c.ranges.by_right in
    let fa : FitsSigned w128 c.args.a.now.bound = search rules in
    let fb : FitsSigned w128 c.args.b.now.bound = search rules in
    let fits : FitsSigned w128 c.in-Some-mix-2.bound = search rules in
    let (here, is) = rw (left, right, to_z-of_z w128 c.args.a.now.bound fa, to_z-of_z w128 c.args.b.now.bound fb) at c.in-Some-mix-2.ensures in
    record { coefs = rw (left, right) at coefs; bound = to_z-of_z w128 c.in-Some-mix-2.bound fits ∙ is }

pub returns-in-Some-mix-2-clause-fits : goal.returns-in-Some-mix-2-clause-fits
returns-in-Some-mix-2-clause-fits c =
    let (low, mixes) = c.terms.invariant in
    let (none_left, none_right) = c.in_default.ensures.none in
    let coefs = mixes_fit _ _ _ _ low c.terms.coefs _ _ none_left none_right mixes in
    let left = to_z-of_z w128 c.args.by_left c.ranges.by_left in
    let right = to_z-of_z w128 c.args.by_right c.ranges.by_right in
    let fa : FitsSigned w128 c.args.a.now.bound = search rules in
    let fb : FitsSigned w128 c.args.b.now.bound = search rules in
    let (here, is) = rw (left, right, to_z-of_z w128 c.args.a.now.bound fa, to_z-of_z w128 c.args.b.now.bound fb) at c.in-Some-mix-2.ensures in
    record { coefs = rw (left, right) at coefs; bound = here }
