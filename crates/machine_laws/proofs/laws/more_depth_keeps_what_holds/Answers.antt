use Rattle.machine_laws.specs.DepthLaws.{holds_deeper}
use Rattle.machine_laws.proofs.laws.more_depth_keeps_what_holds.Goals as goal

pub returns : goal.returns
returns c = holds_deeper
