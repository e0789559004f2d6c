use Rattle.std.proofs.lemmas.Result.{IfOk-weaker}
use Rattle.lin_solver.specs.WayBack.{IsReached, IsAtBound}
use Rattle.lin_solver.proofs.MoveLemmas.{bounds_above, bounds_below, room_wide, reached_above, reached_below, reached_none}
use Rattle.lin_solver.proofs.way_back.extend.Goals as goal

pub worst-requires : goal.worst-requires
worst-requires c =
    let level = c.args.level.now in
    rw c.as_slice.ensures (bounds_above c.args.rows.now c.args.steps.now level.var level.above c.requires.above)

pub move_to-requires-clause-worst : goal.move_to-requires-clause-worst
move_to-requires-clause-worst c =
    let level = c.args.level.now in
    (level.above, bounds_above c.args.rows.now c.args.steps.now level.var level.above c.requires.above, rw c.as_slice.ensures at c.in-Violated.ensures)

pub returns-in-Violated-clause-reached : goal.returns-in-Violated-clause-reached
returns-in-Violated-clause-reached c =
    let rows = c.args.rows.now in
    let steps = c.args.steps.now in
    let level = c.args.level.now in
    let p = c.args.point in
    let w = c.in-Violated.row in
    IfOk-weaker c.move_to.result (IsAtBound p w.room w.coef level.var) (IsReached rows steps level p)
    (λ p' at. reached_above rows steps level p w p' c.requires.occurs c.requires.point c.requires.sums c.requires.above c.requires.below (rw c.as_slice.ensures at c.in-Violated.ensures) at)
    c.move_to.ensures.moved

pub wide_at-requires : goal.wide_at-requires
wide_at-requires c =
    let level = c.args.level.now in
    room_wide c.args.rows.now c.args.steps.now c.args.point level.var level.above c.in-Wide.number c.requires.point (bounds_above c.args.rows.now c.args.steps.now level.var level.above c.requires.above) (rw c.as_slice.ensures at c.in-Wide.ensures)

pub worst-requires-2 : goal.worst-requires-2
worst-requires-2 c =
    let level = c.args.level.now in
    rw c.as_slice-2.ensures (bounds_below c.args.rows.now c.args.steps.now level.var level.below c.requires.below)

pub move_to-requires-in-Violated-worst-clause-worst : goal.move_to-requires-in-Violated-worst-clause-worst
move_to-requires-in-Violated-worst-clause-worst c =
    let level = c.args.level.now in
    (level.below, bounds_below c.args.rows.now c.args.steps.now level.var level.below c.requires.below, rw c.as_slice-2.ensures at c.in-Violated-worst.ensures)

pub wide_at-requires-in-Wide-worst : goal.wide_at-requires-in-Wide-worst
wide_at-requires-in-Wide-worst c =
    let level = c.args.level.now in
    room_wide c.args.rows.now c.args.steps.now c.args.point level.var level.below c.in-Wide-worst.number c.requires.point (bounds_below c.args.rows.now c.args.steps.now level.var level.below c.requires.below) (rw c.as_slice-2.ensures at c.in-Wide-worst.ensures)

pub returns-in_ok-stay-in-Met-worst-clause-reached : goal.returns-in_ok-stay-in-Met-worst-clause-reached
returns-in_ok-stay-in-Met-worst-clause-reached c =
    reached_none c.args.rows.now c.args.steps.now c.args.level.now c.args.point c.in_ok-stay-in-Met-worst.field-0 c.requires.occurs c.requires.point c.requires.above c.requires.below
    (rw c.as_slice.ensures at c.in-Met.ensures) (rw c.as_slice-2.ensures at c.in-Met-worst.ensures) c.in_ok-stay-in-Met-worst.ensures

pub returns-in-Violated-worst-clause-reached : goal.returns-in-Violated-worst-clause-reached
returns-in-Violated-worst-clause-reached c =
    let rows = c.args.rows.now in
    let steps = c.args.steps.now in
    let level = c.args.level.now in
    let p = c.args.point in
    let w = c.in-Violated-worst.row in
    IfOk-weaker c.move_to-in-Violated-worst.result (IsAtBound p w.room w.coef level.var) (IsReached rows steps level p)
    (λ p' at. reached_below rows steps level p w p' c.requires.occurs c.requires.point c.requires.sums c.requires.above c.requires.below (rw c.as_slice-2.ensures at c.in-Violated-worst.ensures) at)
    c.move_to-in-Violated-worst.ensures.moved
