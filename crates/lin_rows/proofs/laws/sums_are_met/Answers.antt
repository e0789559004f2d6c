use Rattle.lin_rows.specs.RowLaws.{meets-sum}
use Rattle.lin_rows.proofs.laws.sums_are_met.Goals as goal

pub returns : goal.returns
returns c = meets-sum
