use Rattle.py_tokens.specs.StringLaws.{same_string}
use Rattle.py_tokens.proofs.laws.a_text_has_one_string_in_front.Goals as goal

pub returns : goal.returns
returns c = same_string
