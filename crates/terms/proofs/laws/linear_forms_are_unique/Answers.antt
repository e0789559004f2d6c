use Rattle.terms.specs.FormLaws.{same_linear}
use Rattle.terms.proofs.laws.linear_forms_are_unique.Goals as goal

pub returns : goal.returns
returns c = same_linear
