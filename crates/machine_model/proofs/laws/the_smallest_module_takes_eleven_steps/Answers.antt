use Rattle.std.proofs.Common.{ap}
use Rattle.machine_model.specs.Steps.{Run}
use Rattle.machine_model.specs.Stuck.{all_ended}
use Rattle.machine_model.proofs.ElevenSteps.{ten_steps, eleven_steps}
use Rattle.machine_model.proofs.laws.the_smallest_module_takes_eleven_steps.Goals as goal

pub returns-clause-unfinished : goal.returns-clause-unfinished
returns-clause-unfinished c = ap (λ (r : Run). all_ended r.state) ten_steps

pub returns-clause-finished : goal.returns-clause-finished
returns-clause-finished c = ap (λ (r : Run). all_ended r.state) eleven_steps

pub returns-clause-lines : goal.returns-clause-lines
returns-clause-lines c = ap (λ (r : Run). r.lines) eleven_steps

pub returns-clause-faults : goal.returns-clause-faults
returns-clause-faults c = ap (λ (r : Run). r.faults) eleven_steps
