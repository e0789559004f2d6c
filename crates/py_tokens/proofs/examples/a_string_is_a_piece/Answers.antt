use Rattle.py_tokens.proofs.StringExamples.{escaped_example, triple_example, bad_example, unclosed_example}
use Rattle.py_tokens.proofs.examples.a_string_is_a_piece.Goals as goal

pub returns-clause-escaped : goal.returns-clause-escaped
returns-clause-escaped c = escaped_example

pub returns-clause-triple : goal.returns-clause-triple
returns-clause-triple c = triple_example

pub returns-clause-bad : goal.returns-clause-bad
returns-clause-bad c = bad_example

pub returns-clause-unclosed : goal.returns-clause-unclosed
returns-clause-unclosed c = unclosed_example
