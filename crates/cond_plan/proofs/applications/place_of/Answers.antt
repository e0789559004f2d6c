use Rattle.std.specs.Prelude.{[], ◌∷◌, ◌++◌, length}
use Rattle.std.proofs.Common.{subst}
use Rattle.cond_plan.specs.Listed.{StandsAt}
use Rattle.cond_plan.proofs.Standing.{stands_later, stands_last}
use Rattle.cond_plan.proofs.applications.place_of.Goals as goal

pub loop-i-preserved : goal.loop-i-preserved
loop-i-preserved c =
    stands_later c.as_slice-hyps.result.now c.loop-i.i c.index-hyps-i.result c.args.c.now.goal c.args.t.now c.loop-i-test.true c.index-hyps-i.is (λ h. let on = c.stands_in.ensures.1 h in absurd (cc (on, c.if-stands_in.false))) c.loop-i.invariant

pub returns : goal.returns
returns c =
    let hyps = c.as_slice-hyps.result.now in
    let goal_ = c.args.c.now.goal in
    let t = c.args.t.now in
    subst (λ zs. StandsAt (zs ++ goal_ ∷ []) (length hyps) t) c.as_slice-hyps.ensures (stands_last hyps c.loop-i.i goal_ t c.loop-i-test.false c.loop-i.invariant)
