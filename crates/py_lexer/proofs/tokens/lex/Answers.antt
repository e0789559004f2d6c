use Rattle.py_lexer.proofs.Judging.{bad_byte_first}
use Rattle.py_lexer.proofs.tokens.lex.Goals as goal

pub returns-in-Err-clause-fault : goal.returns-in-Err-clause-fault
returns-in-Err-clause-fault c = λ h. bad_byte_first c.args.text.now c.in-Err.fault (c.in-Err.ensures.bad h)
