-- What is answered of rows.
use Rattle.std.specs.Prelude.{List, Some, map}
use Rattle.lin_rows.specs.declared.row.Row.{Row}
use Rattle.lin_rows.specs.Steps.{IsCombination}
use Rattle.lin_rows.specs.WidePoints.{IsWidePointOf}
use Rattle.lin_solver.specs.WayBack.{IsSolution}
use Rattle.lin_solver.specs.declared.solving.Solved.{Solved}
use Rattle.lin_solver.specs.declared.solving.Solved.TheVariants as solutions

-- The steps show that the rows aren't met together, or the point meets them all, or the point is a wide one
-- of the rows.
abbrev pub IsSolved : List Row → Solved → Type 0
IsSolved rows (solutions.Combination steps) = IsCombination (map Some rows) steps
IsSolved rows (solutions.Point point) = IsSolution rows point
IsSolved rows (solutions.Wide point) = IsWidePointOf rows point
