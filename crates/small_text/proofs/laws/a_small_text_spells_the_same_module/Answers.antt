use Rattle.small_text.proofs.Joined.{same_module}
use Rattle.small_text.proofs.laws.a_small_text_spells_the_same_module.Goals as goal

pub returns : goal.returns
returns c = same_module
