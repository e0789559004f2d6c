use Rattle.class_table.specs.Faults.{faults_of}
use Rattle.class_table.proofs.Firsts.{first_is_first, none_is_none}
use Rattle.class_table.proofs.laws.the_first_fault_comes_first.Goals as goal

pub returns-clause-first : goal.returns-clause-first
returns-clause-first c raw f e = first_is_first (faults_of raw) f e

pub returns-clause-none : goal.returns-clause-none
returns-clause-none c raw e = none_is_none (faults_of raw) e
