use Rattle.py_parser.proofs.OneAnswer.{one_answer}
use Rattle.py_parser.proofs.laws.a_list_of_tokens_has_one_answer.Goals as goal

pub returns : goal.returns
returns c ts = one_answer ts (c.one_tree.ensures ts)
