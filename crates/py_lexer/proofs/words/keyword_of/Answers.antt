use Rattle.py_lexer.proofs.Keywords.{keyword_or_none}
use Rattle.py_lexer.proofs.words.keyword_of.Goals as goal

pub returns : goal.returns
returns c = keyword_or_none c.args.word.now c.spelled.result c.spelled.ensures
