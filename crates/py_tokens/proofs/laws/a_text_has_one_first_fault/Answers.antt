use Rattle.py_tokens.specs.TokenLaws.{same_first_fault, bad_byte_alone}
use Rattle.py_tokens.proofs.laws.a_text_has_one_first_fault.Goals as goal

pub returns-clause-first : goal.returns-clause-first
returns-clause-first c = same_first_fault

pub returns-clause-alone : goal.returns-clause-alone
returns-clause-alone c = bad_byte_alone
