use Rattle.lin_rows.specs.LowestLaws.{same_elimination, fits_or_wide}
use Rattle.lin_rows.proofs.laws.eliminations_cancel.Goals as goal

pub returns-clause-unique : goal.returns-clause-unique
returns-clause-unique c = same_elimination

pub returns-clause-exact : goal.returns-clause-exact
returns-clause-exact c = fits_or_wide
