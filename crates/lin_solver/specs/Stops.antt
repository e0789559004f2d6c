-- Why no point is found.
use Rattle.std.specs.Prelude.{List}
use Rattle.lin_rows.specs.declared.row.Row.{Row}
use Rattle.lin_rows.specs.declared.step.ComboStep.{ComboStep}
use Rattle.lin_rows.specs.declared.wide.WidePoint.{WidePoint}
use Rattle.lin_rows.specs.declared.wide.WidePoint.TheVariants as points
use Rattle.lin_rows.specs.Terms.{IsNormal}
use Rattle.lin_rows.specs.Steps.{EndsFalse}
use Rattle.lin_rows.specs.WidePoints.{IsWidePointOf}
use Rattle.lin_solver.specs.declared.stop.Stop.{Stop}
use Rattle.lin_solver.specs.declared.stop.Stop.TheVariants as stops

-- the row of a wide bound is in order
abbrev pub HasNormalRow : WidePoint → Type 0
HasNormalRow (points.Pair a b v) = Unit {0}
HasNormalRow (points.Bound p r v) = IsNormal r.coefs
HasNormalRow (points.Form place) = Unit {0}

-- the steps end with a row that can't be met, or the point is a wide one; memory is free
abbrev pub IsStop : List Row → List ComboStep → Stop → Type 0
IsStop rows steps stops.Refuted = EndsFalse steps
IsStop rows steps (stops.Wide w) = IsWidePointOf rows w × HasNormalRow w
IsStop rows steps stops.OutOfMemory = Unit {0}
