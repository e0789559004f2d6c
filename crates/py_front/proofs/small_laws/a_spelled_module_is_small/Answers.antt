use Rattle.py_front.proofs.SmallFronts.{spelled_tree}
use Rattle.py_front.proofs.small_laws.a_spelled_module_is_small.Goals as goal

pub returns : goal.returns
returns c = record {
  forms = λ text m h. let (tree, is) = spelled_tree text m h in c.a_built_module_is_small.ensures.forms tree m is;
  numbers = λ text m h. let (tree, is) = spelled_tree text m h in c.a_built_module_is_small.ensures.numbers tree m is;
  is_main = λ text m h. let (tree, is) = spelled_tree text m h in c.a_built_module_is_small.ensures.is_main tree m is;
}
