use Rattle.std.specs.Prelude.{◌≡◌, [], ◌∷◌, ◌++◌, ◌+◌, take}
use Rattle.std.proofs.Common.{rules, arith}
use Rattle.std.proofs.lemmas.List.{take_all}
use Rattle.std.proofs.lemmas.List.Elements.{All-more}
use Rattle.lin_solver.specs.Numbers.{BoundsAbove, BoundsBelow, IsLive, IsCovered}
use Rattle.lin_solver.proofs.NumberLemmas.{has_grows, have_more, prefix_trans, prefix_more, prefix_same}
use Rattle.lin_solver.proofs.StepLemmas.{all_covered_grow, covered_last}
use Rattle.lin_solver.proofs.sums.add_sums_of.Goals as goal

pub add_sum-requires-clause-left : goal.add_sum-requires-clause-left
add_sum-requires-clause-left c =
    has_grows c.args.rows.now c.args.steps.now c.loop-right.steps (BoundsAbove c.args.rows.now c.args.var) c.args.left c.loop-right.invariant.grown c.requires.left

pub add_sum-requires-clause-right : goal.add_sum-requires-clause-right
add_sum-requires-clause-right c =
    has_grows c.args.rows.now c.args.steps.now c.loop-right.steps (BoundsBelow c.args.rows.now c.args.var) _ c.loop-right.invariant.grown (c.requires.below c.loop-right.right-index 0 c.loop-right-test.true)

pub loop-right-preserved : goal.loop-right-preserved
loop-right-preserved c =
    let inv = c.loop-right.invariant in
    let rows = c.args.rows.now in
    let var = c.args.var in
    let left = c.args.left in
    let number = c.in_ok-number.number in
    let steps = c.add_sum.new.steps in
    let pushed : c.push.new.self ≡ c.loop-right.next ++ number ∷ [] = search rules in
    let grown = c.add_sum.ensures.grown in
    let more = prefix_more c.loop-right.next c.loop-right.next c.push.new.self number pushed (prefix_same c.loop-right.next) in record {
      kept = λ h. c.add_sum.ensures.kept (inv.kept h);
      grown = prefix_trans _ _ _ inv.grown grown;
      more = prefix_trans _ _ _ inv.more more;
      live = rw pushed (have_more rows c.loop-right.steps steps (IsLive rows (var + 1)) c.loop-right.next number grown inv.live c.in_ok-number.ensures.live);
      covered = All-more (IsCovered rows steps var c.push.new.self left) c.args.below.now c.loop-right.right-index 0 c.loop-right-test.true
          (all_covered_grow rows c.loop-right.steps steps var left (take c.loop-right.right-index c.args.below.now) c.loop-right.next c.push.new.self grown more inv.covered)
          (covered_last rows steps var left _ number c.loop-right.next c.push.new.self pushed c.in_ok-number.ensures.sum);
    }

pub returns-clause-covered : goal.returns-clause-covered
returns-clause-covered c =
    rw (take_all c.loop-right.right-index c.args.below.now (omega (arith, c.loop-right-test.false))) at c.loop-right.invariant.covered
