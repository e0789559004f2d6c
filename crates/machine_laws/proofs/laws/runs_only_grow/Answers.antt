use Rattle.machine_laws.specs.RunGrowth.{step_grows, after_extends}
use Rattle.machine_laws.proofs.laws.runs_only_grow.Goals as goal

pub returns-clause-steps : goal.returns-clause-steps
returns-clause-steps c = step_grows

pub returns-clause-runs : goal.returns-clause-runs
returns-clause-runs c = after_extends
