use Rattle.std.proofs.Common.{Some, ◌∙◌, ap, take, length, List, ℕ}
use Rattle.py_tokens.specs.MarkForms.{mark_text}
use Rattle.py_lexer.specs.LongestForms.{IsLongestOf}
use Rattle.py_lexer.specs.declared.marks.TheConstants.{MARKS}
use Rattle.py_lexer.proofs.Begins.{cut_whole}
use Rattle.py_lexer.proofs.LongestMark.{no_mark, mark_longest, text_in_front}
use Rattle.py_lexer.proofs.marks.split_mark.Goals as goal

pub returns-in-None-clause-none : goal.returns-in-None-clause-none
returns-in-None-clause-none c = λ _. no_mark c.args.codes.now (rw c.in-None.is at c.longest_mark.ensures)

pub returns-in-Some-clause-longest : goal.returns-in-Some-clause-longest
returns-in-Some-clause-longest c =
    let h : IsLongestOf c.args.codes.now MARKS (Some c.in-Some.mark) = rw c.in-Some.is at c.longest_mark.ensures in
    mark_longest c.args.codes.now c.split_at.result.0.now c.split_at.result.1.now c.in-Some.mark h (cut_whole c.args.codes.now (length c.mark_text.result.now) c.split_at.result.0.now c.split_at.result.1.now c.split_at.ensures.front c.split_at.ensures.back) (c.split_at.ensures.front ∙ ap (λ (t : List ℕ). take (length t) c.args.codes.now) c.mark_text.ensures ∙ text_in_front c.args.codes.now (mark_text c.in-Some.mark) h.0)
