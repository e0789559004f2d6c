use Rattle.py_grammar.proofs.WholeModule.{complete}
use Rattle.py_grammar.proofs.Bottoms.{ended}
use Rattle.py_grammar.proofs.Sound.{spells, first_bad, unfinished}
use Rattle.py_grammar.proofs.laws.the_machine_reads_the_grammar.Goals as goal

pub returns-clause-complete : goal.returns-clause-complete
returns-clause-complete c = complete

pub returns-clause-sound : goal.returns-clause-sound
returns-clause-sound c = spells

pub returns-clause-refused : goal.returns-clause-refused
returns-clause-refused c = first_bad

pub returns-clause-unfinished : goal.returns-clause-unfinished
returns-clause-unfinished c = unfinished

pub returns-clause-ended : goal.returns-clause-ended
returns-clause-ended c = ended
