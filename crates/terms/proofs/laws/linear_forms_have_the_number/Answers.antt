use Rattle.terms.specs.FormLaws.{number_of_form}
use Rattle.terms.proofs.laws.linear_forms_have_the_number.Goals as goal

pub returns : goal.returns
returns c = number_of_form
