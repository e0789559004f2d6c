use Rattle.lin_rows.specs.RowLaws.{same_sum}
use Rattle.lin_rows.proofs.laws.sums_are_unique.Goals as goal

pub returns : goal.returns
returns c = same_sum
