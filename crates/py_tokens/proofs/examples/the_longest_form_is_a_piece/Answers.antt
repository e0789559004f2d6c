use Rattle.py_tokens.proofs.PieceExamples.{number_example, zero_example, mark_example, keyword_example, name_example, comment_example, stray_example}
use Rattle.py_tokens.proofs.examples.the_longest_form_is_a_piece.Goals as goal

pub returns-clause-number : goal.returns-clause-number
returns-clause-number c = number_example

pub returns-clause-zero : goal.returns-clause-zero
returns-clause-zero c = zero_example

pub returns-clause-mark : goal.returns-clause-mark
returns-clause-mark c = mark_example

pub returns-clause-keyword : goal.returns-clause-keyword
returns-clause-keyword c = keyword_example

pub returns-clause-name : goal.returns-clause-name
returns-clause-name c = name_example

pub returns-clause-comment : goal.returns-clause-comment
returns-clause-comment c = comment_example

pub returns-clause-stray : goal.returns-clause-stray
returns-clause-stray c = stray_example
