use Rattle.lin_rows.specs.UnitLaws.{has_least_unit}
use Rattle.lin_rows.proofs.laws.reduced_units_are_least.Goals as goal

pub returns : goal.returns
returns c = has_least_unit
