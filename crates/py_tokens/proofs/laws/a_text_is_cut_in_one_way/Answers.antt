use Rattle.py_tokens.specs.CutLaws.{same_cut, cut_behind, cut_end}
use Rattle.py_tokens.proofs.laws.a_text_is_cut_in_one_way.Goals as goal

pub returns-clause-one : goal.returns-clause-one
returns-clause-one c = same_cut

pub returns-clause-rest : goal.returns-clause-rest
returns-clause-rest c = cut_behind

pub returns-clause-end : goal.returns-clause-end
returns-clause-end c = cut_end
