use Rattle.std.proofs.Common.{length}
use Rattle.machine_model.proofs.control.stmt.+push_making.Given as goal

abbrev pub decreases-push_making : goal.decreases-push_making
decreases-push_making l = length l.body.now
