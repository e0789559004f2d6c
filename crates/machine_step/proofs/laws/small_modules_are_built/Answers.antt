use Rattle.machine_step.proofs.BuiltItems.{small_is_built}
use Rattle.machine_step.proofs.laws.small_modules_are_built.Goals as goal

pub returns : goal.returns
returns c = small_is_built
