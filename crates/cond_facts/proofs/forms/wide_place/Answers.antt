use Rattle.std.proofs.Common.{arith}
use Rattle.cond_facts.proofs.FormTelling.{told_more, told_all}
use Rattle.cond_facts.proofs.forms.wide_place.Goals as goal

pub loop-place-preserved : goal.loop-place-preserved
loop-place-preserved c =
    told_more c.args.literals.now c.loop-place.place _ _ c.in_ok-has_wide_form.field-0 c.loop-place-test.true c.loop-place.invariant c.index-literals-place.is c.in_ok-has_wide_form.ensures c.if-branch.false

pub returns : goal.returns
returns c =
    let past = c.loop-place-test.false in
    told_all c.args.literals.now c.loop-place.place (omega arith) c.loop-place.invariant
