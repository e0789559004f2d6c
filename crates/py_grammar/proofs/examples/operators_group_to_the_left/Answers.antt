use Rattle.py_grammar.proofs.SmallModules.{difference_is_spelled}
use Rattle.py_grammar.proofs.examples.operators_group_to_the_left.Goals as goal

pub returns : goal.returns
returns c = difference_is_spelled
