use Rattle.contract_forms.proofs.Reaching.{found, all}
use Rattle.contract_forms.proofs.laws.rounds_find_what_reaches_itself.Goals as goal

pub returns-clause-found : goal.returns-clause-found
returns-clause-found c rs b e = found rs b e

pub returns-clause-all : goal.returns-clause-all
returns-clause-all c rs b r = all rs b r
