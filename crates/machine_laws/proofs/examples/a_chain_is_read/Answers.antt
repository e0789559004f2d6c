use Rattle.machine_laws.proofs.Chains.{nodes_over, bodies_name, read_chain, read_never}
use Rattle.machine_laws.proofs.examples.a_chain_is_read.Goals as goal

pub returns-clause-over : goal.returns-clause-over
returns-clause-over c = nodes_over

pub returns-clause-names : goal.returns-clause-names
returns-clause-names c = bodies_name

pub returns-clause-holds : goal.returns-clause-holds
returns-clause-holds c = read_chain

pub returns-clause-doesnt : goal.returns-clause-doesnt
returns-clause-doesnt c = read_never
