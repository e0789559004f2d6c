use Rattle.py_grammar.proofs.SmallModules.{wrong_is_refused}
use Rattle.py_grammar.proofs.examples.a_comma_alone_is_refused.Goals as goal

pub returns : goal.returns
returns c = wrong_is_refused
