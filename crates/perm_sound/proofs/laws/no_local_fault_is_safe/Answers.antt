use Rattle.perm_sound.proofs.Runs.{safe}
use Rattle.perm_sound.proofs.laws.no_local_fault_is_safe.Goals as goal

pub returns : goal.returns
returns c = safe
