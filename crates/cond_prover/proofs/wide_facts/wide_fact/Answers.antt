use Rattle.std.proofs.Common.{arith}
use Rattle.cond_prover.proofs.Answering.{one_more, all_fit}
use Rattle.cond_prover.proofs.wide_facts.wide_fact.Goals as goal

pub loop-place-preserved : goal.loop-place-preserved
loop-place-preserved c =
    one_more c.args.facts.now c.loop-place.place _ _ c.in_ok-has_wide_row.field-0 c.loop-place-test.true c.loop-place.invariant c.index-facts-place.is c.in_ok-has_wide_row.ensures c.if-branch.false

pub returns : goal.returns
returns c =
    let past = c.loop-place-test.false in
    all_fit c.args.facts.now c.loop-place.place (omega arith) c.loop-place.invariant
