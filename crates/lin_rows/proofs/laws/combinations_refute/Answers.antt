use Rattle.std.specs.Prelude.{Some, map}
use Rattle.lin_rows.specs.StepLaws.{refuted, met-rows}
use Rattle.lin_rows.proofs.laws.combinations_refute.Goals as goal

pub returns-clause-numbered : goal.returns-clause-numbered
returns-clause-numbered c rows steps q x h positive met = refuted q x rows steps h positive met

pub returns-clause-given : goal.returns-clause-given
returns-clause-given c rows steps q x h positive met =
    refuted q x (map Some rows) steps h positive (met-rows q x rows met)
