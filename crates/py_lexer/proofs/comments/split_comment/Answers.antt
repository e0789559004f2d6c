use Rattle.std.proofs.Common.{◌∙◌, sym, ap}
use Rattle.std.specs.List.{prefix_len}
use Rattle.py_lexer.specs.LongestForms.{is_in_line}
use Rattle.py_lexer.proofs.Begins.{all_behind}
use Rattle.py_lexer.proofs.LongestComment.{comment_in_front}
use Rattle.py_lexer.proofs.comments.split_comment.Goals as goal

pub returns-then-c-eq35-clause-longest : goal.returns-then-c-eq35-clause-longest
returns-then-c-eq35-clause-longest c = comment_in_front c.args.codes.now c.split_at.result.0.now c.split_at.result.1.now c.line_len.result c.c-item.result c.in-len1-up.len_at_least (sym c.c-item.is ∙ c.if-c-eq35.true) (c.line_len.ensures.len ∙ ap (prefix_len is_in_line) (all_behind c.args.codes.now)) c.split_at.ensures.front c.split_at.ensures.back
