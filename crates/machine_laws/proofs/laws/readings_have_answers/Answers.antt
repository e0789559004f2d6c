use Rattle.machine_laws.specs.WholeReadings.{opens_answered, contracts_answered}
use Rattle.machine_laws.proofs.laws.readings_have_answers.Goals as goal

pub returns-clause-instances : goal.returns-clause-instances
returns-clause-instances c = opens_answered

pub returns-clause-contracts : goal.returns-clause-contracts
returns-clause-contracts c = contracts_answered
