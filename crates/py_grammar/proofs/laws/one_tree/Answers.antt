use Rattle.py_grammar.proofs.WholeModule.{one_tree}
use Rattle.py_grammar.proofs.laws.one_tree.Goals as goal

pub returns : goal.returns
returns c = one_tree
