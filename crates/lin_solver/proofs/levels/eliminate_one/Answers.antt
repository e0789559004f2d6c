use Rattle.std.specs.Prelude.{◌+◌}
use Rattle.std.proofs.lemmas.List.Elements.{All-weaker}
use Rattle.lin_solver.specs.Numbers.{HaveRows, IsAny, IsLive, BoundsAbove, BoundsBelow, FollowsFrom}
use Rattle.lin_solver.specs.Levels.{IsInPart, IsKept}
use Rattle.lin_solver.proofs.NumberLemmas.{have_grows, have_weaker, prefix_same}
use Rattle.lin_solver.proofs.PartLemmas.{all_in_part_grow}
use Rattle.lin_solver.proofs.StepLemmas.{are_covered_on}
use Rattle.lin_solver.proofs.LevelLemmas.{part_kept}
use Rattle.lin_solver.proofs.StrongestLemmas.{have_among}
use Rattle.lin_solver.proofs.levels.eliminate_one.Goals as goal

pub part-requires : goal.part-requires
part-requires c = rw c.as_slice.ensures c.requires

pub add_sums-requires-clause-above : goal.add_sums-requires-clause-above
add_sums-requires-clause-above c =
    rw c.as_slice-2.ensures (rw c.as_slice.ensures at c.in_ok-above.ensures.above)

pub add_sums-requires-clause-below : goal.add_sums-requires-clause-below
add_sums-requires-clause-below c =
    rw c.as_slice-3.ensures (rw c.as_slice.ensures at c.in_ok-above.ensures.below)

pub add_sums-requires-clause-live : goal.add_sums-requires-clause-live
add_sums-requires-clause-live c =
    rw c.as_slice.ensures at c.in_ok-above.ensures.without

pub strongest-requires : goal.strongest-requires
strongest-requires c =
    let live = c.in_ok-add_sums.ensures.live in
    rw (c.as_slice-4.ensures, c.as_slice-5.ensures) (have_weaker c.args.rows.now c.add_sums.new.steps (IsLive c.args.rows.now (c.args.var + 1)) IsAny c.add_sums.new.next (λ r h. tt) live)

pub returns-clause-level : goal.returns-clause-level
returns-clause-level c =
    let rows = c.args.rows.now in
    let old = c.args.steps.now in
    let steps = c.add_sums.new.steps in
    let v = c.args.var in
    let parts = c.in_ok-above.field-0 in
    let next = c.add_sums.new.next in
    let (grown, more) = c.add_sums.ensures.grown in
    let all : HaveRows rows steps (FollowsFrom rows steps c.in_ok-next.next) next = rw (c.as_slice-4.ensures, c.as_slice-5.ensures) at c.in_ok-next.ensures.all in
    let in_part = all_in_part_grow parts.above parts.below parts.without parts.above parts.below next c.args.live.now (prefix_same parts.above) (prefix_same parts.below) more c.in_ok-above.ensures.all in record {
      above = have_grows rows old steps (BoundsAbove rows v) parts.above grown (rw c.as_slice.ensures at c.in_ok-above.ensures.above);
      below = have_grows rows old steps (BoundsBelow rows v) parts.below grown (rw c.as_slice.ensures at c.in_ok-above.ensures.below);
      parts = All-weaker (IsInPart parts.above parts.below next) (IsKept rows steps parts.above parts.below c.in_ok-next.next) (λ i h. part_kept rows steps parts.above parts.below next c.in_ok-next.next i all h) c.args.live.now in_part;
      sums = are_covered_on rows steps v parts.above parts.below next c.in_ok-next.next all (rw (c.as_slice-2.ensures, c.as_slice-3.ensures) at c.in_ok-add_sums.ensures.covered);
    }

pub returns-clause-live : goal.returns-clause-live
returns-clause-live c =
    have_among c.args.rows.now c.add_sums.new.steps (IsLive c.args.rows.now (c.args.var + 1)) c.add_sums.new.next c.in_ok-next.next c.in_ok-add_sums.ensures.live (rw c.as_slice-5.ensures at c.in_ok-next.ensures.among)
