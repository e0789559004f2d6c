use Rattle.py_tokens.specs.TokenLaws.{same_pieces, same_tokens}
use Rattle.py_tokens.proofs.laws.a_text_has_one_token_list.Goals as goal

pub returns-clause-pieces : goal.returns-clause-pieces
returns-clause-pieces c = same_pieces

pub returns-clause-tokens : goal.returns-clause-tokens
returns-clause-tokens c = same_tokens
