use Rattle.py_grammar.proofs.SmallModules.{condition_is_spelled}
use Rattle.py_grammar.proofs.examples.is_not_is_one_operator.Goals as goal

pub returns : goal.returns
returns c = condition_is_spelled
