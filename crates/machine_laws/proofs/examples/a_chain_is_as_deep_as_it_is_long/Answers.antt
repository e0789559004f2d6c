use Rattle.machine_laws.proofs.Chains.{three_deep, not_two_deep, never}
use Rattle.machine_laws.proofs.examples.a_chain_is_as_deep_as_it_is_long.Goals as goal

pub returns-clause-three_deep : goal.returns-clause-three_deep
returns-clause-three_deep c = three_deep

pub returns-clause-not_two_deep : goal.returns-clause-not_two_deep
returns-clause-not_two_deep c = not_two_deep

pub returns-clause-never : goal.returns-clause-never
returns-clause-never c = never
