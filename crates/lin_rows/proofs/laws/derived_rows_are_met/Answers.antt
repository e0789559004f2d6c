use Rattle.lin_rows.specs.DerivedLaws.{meets-derived, derived-below}
use Rattle.lin_rows.proofs.laws.derived_rows_are_met.Goals as goal

pub returns-clause-met : goal.returns-clause-met
returns-clause-met c rows v r q x met d = meets-derived q x rows v r met d

pub returns-clause-lower : goal.returns-clause-lower
returns-clause-lower c = derived-below
