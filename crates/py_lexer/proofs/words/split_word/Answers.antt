use Rattle.std.proofs.Common.{◌∙◌}
use Rattle.py_lexer.proofs.LongestWord.{longest_word}
use Rattle.py_lexer.proofs.words.split_word.Goals as goal

pub returns-clause-longest : goal.returns-clause-longest
returns-clause-longest c = rw (c.split_at.ensures.front, c.split_at.ensures.back, c.word_len-n.ensures.value) (longest_word c.args.codes.now (λ e. c.if-n-eq0.false (c.word_len-n.ensures.value ∙ e)))
