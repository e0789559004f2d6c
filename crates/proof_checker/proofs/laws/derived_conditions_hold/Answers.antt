use Rattle.proof_checker.proofs.Sound.{derived_holds}
use Rattle.proof_checker.proofs.laws.derived_conditions_hold.Goals as goal

pub returns : goal.returns
returns c = derived_holds
