use Rattle.std.specs.Prelude.{pos, ◌<ℤ◌, ◌≤ℤ◌, get_or, FitsSigned, refl}
use Rattle.std.specs.Int.{w128}
use Rattle.std.proofs.Common.{rules, arith, ◌∙◌, to_z, of_z, subst}
use Rattle.std.proofs.lemmas.Int.{to_z-of_z, ints}
use Rattle.std.proofs.lemmas.List.{take_all}
use Rattle.lin_solver.specs.Numbers.{Bounds}
use Rattle.lin_solver.specs.WayBack.{room}
use Rattle.lin_solver.specs.declared.worst.Violation.{Violation}
use Rattle.lin_solver.proofs.NumberLemmas.{one_row, has_within}
use Rattle.lin_solver.proofs.WorstLemmas.{worst_kept, met_more, worst_more, worst_ready}
use Rattle.lin_solver.proofs.worst.worst.Goals as goal
use Rattle.lin_solver.proofs.worst.worst.Goals.{then-room-lt0, else-room-lt0}

pub row_at-row-requires : goal.row_at-row-requires
row_at-row-requires c =
    has_within c.args.rows.now c.args.steps.now (Bounds c.args.rows.now c.args.var) _ (c.requires c.loop-number.number-index 0 c.loop-number-test.true)

pub worse-requires-clause-a : goal.worse-requires-clause-a
worse-requires-clause-a c =
    worst_ready c.args.rows.now c.args.steps.now c.args.point.now c.args.var c.args.numbers.now c.loop-number.number-index c.loop-number.worst c.requires c.loop-number.invariant.some

pub worse-requires-clause-b : goal.worse-requires-clause-b
worse-requires-clause-b c =
    let rows = c.args.rows.now in
    let fc : FitsSigned w128 c.coef-coef.result = search rules in
    let fr : FitsSigned w128 c.in-Some.room = search rules in
    let some = (one_row rows c.args.steps.now (Bounds rows c.args.var) _ c.row_at-row.result.now c.row_at-row.ensures (c.requires c.loop-number.number-index 0 c.loop-number-test.true)).1 in
    let less : to_z w128 (of_z w128 c.in-Some.room) <ℤ pos 0 = omega (arith, ints, c.if-room-lt0.true) in
    rw (to_z-of_z w128 c.coef-coef.result fc, c.coef-coef.ensures) (some, less)

pub loop-number-preserved : goal.loop-number-preserved
loop-number-preserved c =
    let rows = c.args.rows.now in
    let steps = c.args.steps.now in
    let p = c.args.point.now in
    let v = c.args.var in
    let numbers = c.args.numbers.now in
    let k = c.loop-number.number-index in
    let lt = c.loop-number-test.true in
    let row = c.row_at-row.result.now in
    let at = c.row_at-row.ensures in
    let inv = c.loop-number.invariant in
    let fc : FitsSigned w128 c.coef-coef.result = search rules in
    let fr : FitsSigned w128 c.in-Some.room = search rules in
    let coef = to_z-of_z w128 c.coef-coef.result fc ∙ c.coef-coef.ensures in
    let left = to_z-of_z w128 c.in-Some.room fr ∙ c.in-Some.ensures.some in
    elim c.if-room-lt0.branch [
      | then-room-lt0 w ↦
          let b : Violation = record { number = get_or numbers k 0; room = to_z w128 (of_z w128 c.in-Some.room); coef = to_z w128 (of_z w128 c.coef-coef.result) } in
          let less : to_z w128 (of_z w128 c.in-Some.room) <ℤ pos 0 = omega (arith, ints, w.if-room-lt0.true) in record {
            some = rw w.worst-is (worst_more rows steps p v numbers k c.loop-number.worst b w.worse.result row lt at c.requires refl coef left less w.worse.ensures.either w.worse.ensures.new w.worse.ensures.old inv.some inv.none);
            none = rw w.worst-is tt;
          }
      | else-room-lt0 w ↦
          let some : pos 0 ≤ℤ to_z w128 (of_z w128 c.in-Some.room) = omega (arith, ints, w.if-room-lt0.false) in
          let met : pos 0 ≤ℤ room p row v = subst (λ z. pos 0 ≤ℤ z) left some in record {
            some = rw w.worst-is (worst_kept rows steps p v numbers k c.loop-number.worst row lt at met inv.some);
            none = rw w.worst-is (met_more rows steps p v numbers k c.loop-number.worst row lt at met inv.none);
          }
    ]

pub returns-in-None : goal.returns-in-None
returns-in-None c =
    rw (take_all c.loop-number.number-index c.args.numbers.now (omega (arith, c.loop-number-test.false))) at (rw c.in-None.is at c.loop-number.invariant.none)
