use Rattle.std.specs.Prelude.{◌≡◌, ◌<◌, length}
use Rattle.std.proofs.Common.{arith}
use Rattle.std.proofs.lemmas.Option.{slice_get_within}
use Rattle.cond_plan.proofs.Asking.{at_place, differ_at, apart_more}
use Rattle.cond_plan.proofs.asked.do_differ.Goals as goal

pub are_operands_apart-requires-clause-settled : goal.are_operands_apart-requires-clause-settled
are_operands_apart-requires-clause-settled c =
    let less : c.loop-k.k < length c.args.ys.now = omega arith in
    c.requires.settled c.loop-k.k c.index-xs-k.result c.index-ys-k.result (at_place c.args.xs.now c.loop-k.k c.index-xs-k.result c.loop-k-test.true c.index-xs-k.is) (at_place c.args.ys.now c.loop-k.k c.index-ys-k.result less c.index-ys-k.is)

pub returns-then-are_operands_apart : goal.returns-then-are_operands_apart
returns-then-are_operands_apart c =
    let less : c.loop-k.k < length c.args.ys.now = omega arith in
    differ_at c.args.p.now c.args.xs.now c.args.ys.now c.loop-k.k c.index-xs-k.result c.index-ys-k.result c.requires.met.unit (at_place c.args.xs.now c.loop-k.k c.index-xs-k.result c.loop-k-test.true c.index-xs-k.is) (at_place c.args.ys.now c.loop-k.k c.index-ys-k.result less c.index-ys-k.is) c.if-are_operands_apart.ensures

pub loop-k-preserved : goal.loop-k-preserved
loop-k-preserved c =
    let less : c.loop-k.k < length c.args.ys.now = omega arith in
    apart_more c.args.facts.now c.args.xs.now c.args.ys.now c.loop-k.k c.index-xs-k.result c.index-ys-k.result (at_place c.args.xs.now c.loop-k.k c.index-xs-k.result c.loop-k-test.true c.index-xs-k.is) (at_place c.args.ys.now c.loop-k.k c.index-ys-k.result less c.index-ys-k.is) c.if-are_operands_apart.ensures c.loop-k.invariant

pub returns : goal.returns
returns c = λ k a b e h.
    let within : k < length c.args.xs.now = slice_get_within c.args.xs.now k a e in
    let so_far : k < c.loop-k.k = omega arith in
    c.loop-k.invariant k so_far a b e h
