use Rattle.std.specs.Prelude.{All}
use Rattle.std.proofs.Common.{subst}
use Rattle.std.proofs.lemmas.List.{take_all}
use Rattle.std.proofs.lemmas.List.Elements.{All-more}
use Rattle.cond_plan.specs.Needs.{IsSettled}
use Rattle.cond_plan.proofs.Asking.{at_place}
use Rattle.cond_plan.proofs.need.first_need.Goals as goal

pub returns-in-Some : goal.returns-in-Some
returns-in-Some c = record {
  comparison = c.index-comparisons-place.result;
  at_place = at_place c.args.comparisons.now c.loop-place.place c.index-comparisons-place.result c.loop-place-test.true c.index-comparisons-place.is;
  needed = c.in-Some.ensures;
}

pub loop-place-preserved : goal.loop-place-preserved
loop-place-preserved c =
    All-more (IsSettled c.args.p.now c.args.facts.now) c.args.comparisons.now c.loop-place.place c.index-comparisons-place.result c.loop-place-test.true c.loop-place.invariant (subst (IsSettled c.args.p.now c.args.facts.now) c.index-comparisons-place.is c.in_default.ensures)

pub returns : goal.returns
returns c =
    subst (All (IsSettled c.args.p.now c.args.facts.now)) (take_all c.loop-place.place c.args.comparisons.now c.loop-place-test.false) c.loop-place.invariant
