use Rattle.py_tokens.specs.PieceLaws.{same_piece, not_empty}
use Rattle.py_tokens.proofs.laws.a_text_has_one_piece_in_front.Goals as goal

pub returns-clause-one : goal.returns-clause-one
returns-clause-one c = same_piece

pub returns-clause-filled : goal.returns-clause-filled
returns-clause-filled c = not_empty
