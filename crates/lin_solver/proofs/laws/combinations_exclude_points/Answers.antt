use Rattle.std.specs.Prelude.{Some, map}
use Rattle.lin_rows.specs.Points.{valuation}
use Rattle.lin_rows.specs.StepLaws.{refuted, met-rows}
use Rattle.lin_solver.proofs.laws.combinations_exclude_points.Goals as goal

pub returns-clause-met : goal.returns-clause-met
returns-clause-met c rows steps q x h positive met =
    refuted q x (map Some rows) steps h positive (met-rows q x rows met)

pub returns-clause-point : goal.returns-clause-point
returns-clause-point c rows steps p h s =
    refuted p.q (valuation p.values) (map Some rows) steps h s.0 (met-rows p.q (valuation p.values) rows s.1)
