use Rattle.std.specs.Prelude.{◌≡◌, ◌-ℤ◌, drop, Any}
use Rattle.lin_rows.specs.Terms.{value_at}
use Rattle.lin_rows.specs.Points.{valuation}
use Rattle.lin_rows.specs.WidePoints.{IsWide, numbers_back}
use Rattle.lin_solver.specs.WayBack.{room}
use Rattle.lin_solver.proofs.RoomLemmas.{after}
use Rattle.lin_solver.proofs.RestLemmas.{numbers_from}
use Rattle.lin_solver.proofs.room.room_at.Given as goal

-- what is left is the room and the numbers that are still to come, which are among all of them
abbrev pub invariant-loop-v : goal.invariant-loop-v
invariant-loop-v l = record {
  rest : l.rest -ℤ value_at (valuation l.fn.point.values) (after l.fn.var (drop l.v-index l.v-items)) ≡ room l.fn.point l.fn.row l.fn.var;
  among : Any IsWide (numbers_from l.rest l.fn.var (drop l.v-index l.v-items) (valuation l.fn.point.values)) → Any IsWide (numbers_back l.fn.point l.fn.row l.fn.var);
}
