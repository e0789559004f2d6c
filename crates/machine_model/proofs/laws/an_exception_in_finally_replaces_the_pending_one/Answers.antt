use Rattle.std.proofs.Common.{ap}
use Rattle.machine_model.specs.Steps.{Run}
use Rattle.machine_model.proofs.ReplacedSteps.{five_steps}
use Rattle.machine_model.proofs.laws.an_exception_in_finally_replaces_the_pending_one.Goals as goal

pub returns : goal.returns
returns c = ap (λ (r : Run). r.faults) five_steps
