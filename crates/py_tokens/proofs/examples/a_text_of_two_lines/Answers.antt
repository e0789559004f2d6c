use Rattle.py_tokens.proofs.TextExamples.{pieces_example}
use Rattle.py_tokens.proofs.TokensExample.{tokens_example}
use Rattle.py_tokens.proofs.examples.a_text_of_two_lines.Goals as goal

pub returns-clause-pieces : goal.returns-clause-pieces
returns-clause-pieces c = pieces_example

pub returns-clause-tokens : goal.returns-clause-tokens
returns-clause-tokens c = tokens_example
