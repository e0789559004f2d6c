use Rattle.terms.specs.MeaningLaws.{number_meant}
use Rattle.terms.proofs.laws.terms_of_numbers_are_their_numbers.Goals as goal

pub returns : goal.returns
returns c m t is = number_meant m t is
