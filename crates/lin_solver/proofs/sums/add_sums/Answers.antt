use Rattle.std.specs.Prelude.{take, All}
use Rattle.std.proofs.Common.{arith}
use Rattle.std.proofs.lemmas.List.{take_all}
use Rattle.std.proofs.lemmas.List.Elements.{All-more}
use Rattle.lin_solver.specs.Numbers.{BoundsAbove, BoundsBelow, IsCovered}
use Rattle.lin_solver.proofs.NumberLemmas.{has_grows, have_grows, prefix_trans}
use Rattle.lin_solver.proofs.StepLemmas.{are_covered_grow}
use Rattle.lin_solver.proofs.sums.add_sums.Goals as goal

pub add_sums_of-requires-clause-left : goal.add_sums_of-requires-clause-left
add_sums_of-requires-clause-left c =
    has_grows c.args.rows.now c.args.steps.now c.loop-left.steps (BoundsAbove c.args.rows.now c.args.var) _ c.loop-left.invariant.grown (c.requires.above c.loop-left.left-index 0 c.loop-left-test.true)

pub add_sums_of-requires-clause-below : goal.add_sums_of-requires-clause-below
add_sums_of-requires-clause-below c =
    have_grows c.args.rows.now c.args.steps.now c.loop-left.steps (BoundsBelow c.args.rows.now c.args.var) c.args.below.now c.loop-left.invariant.grown c.requires.below

pub loop-left-preserved : goal.loop-left-preserved
loop-left-preserved c =
    let inv = c.loop-left.invariant in
    let rows = c.args.rows.now in
    let var = c.args.var in
    let below = c.args.below.now in
    let steps = c.add_sums_of.new.steps in
    let next = c.add_sums_of.new.next in
    let (grown, more) = c.add_sums_of.ensures.grown in record {
      kept = λ h. c.add_sums_of.ensures.kept (inv.kept h);
      grown = prefix_trans _ _ _ inv.grown grown;
      more = prefix_trans _ _ _ inv.more more;
      live = c.in_ok-add_sums_of.ensures.live;
      covered = All-more (λ i. All (IsCovered rows steps var next i) below) c.args.above.now c.loop-left.left-index 0 c.loop-left-test.true
          (are_covered_grow rows c.loop-left.steps steps var (take c.loop-left.left-index c.args.above.now) below c.loop-left.next next grown more inv.covered)
          c.in_ok-add_sums_of.ensures.covered;
    }

pub returns-clause-covered : goal.returns-clause-covered
returns-clause-covered c =
    rw (take_all c.loop-left.left-index c.args.above.now (omega (arith, c.loop-left-test.false))) at c.loop-left.invariant.covered
