use Rattle.cond_facts.proofs.FactLaws.{wide_of_facts, narrow_facts}
use Rattle.cond_facts.proofs.laws.rows_of_facts_are_the_conditions.Goals as goal

pub returns-clause-wide : goal.returns-clause-wide
returns-clause-wide c = wide_of_facts

pub returns-clause-narrow : goal.returns-clause-narrow
returns-clause-narrow c = narrow_facts
