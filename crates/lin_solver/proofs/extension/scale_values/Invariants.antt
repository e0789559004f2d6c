use Rattle.std.specs.Prelude.{◌≡◌, take}
use Rattle.lin_solver.specs.WayBack.{scaled}
use Rattle.lin_solver.proofs.extension.scale_values.Given as goal

abbrev pub invariant-loop-var : goal.invariant-loop-var
invariant-loop-var l = l.list ≡ scaled l.fn.scale (take l.var-index l.fn.values)
