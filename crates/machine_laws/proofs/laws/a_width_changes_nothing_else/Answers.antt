use Rattle.machine_laws.specs.ItemWidths.{step_computes, whole_fits}
use Rattle.machine_laws.proofs.laws.a_width_changes_nothing_else.Goals as goal

pub returns-clause-exact : goal.returns-clause-exact
returns-clause-exact c = step_computes

pub returns-clause-all_fit : goal.returns-clause-all_fit
returns-clause-all_fit c = whole_fits
