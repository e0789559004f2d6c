use Rattle.std.proofs.Common.{◌≡◌, true, List, ℕ, subst, sym}
use Rattle.py_tokens.specs.StringForms.{BeginsWith}
use Rattle.py_lexer.proofs.LongestMark.{longest_if_not, longest_if_first}
use Rattle.py_lexer.proofs.marks.longer_mark.Goals as goal

pub returns-then-not-begins_with : goal.returns-then-not-begins_with
returns-then-not-begins_with c = λ tried h. longest_if_not c.args.codes.now tried c.args.best c.args.mark (λ b. let e : c.begins_with.result ≡ true = c.begins_with.ensures.1 (subst (λ (t : List ℕ). BeginsWith c.args.codes.now t) (sym c.mark_text.ensures) b) in cc) h

pub returns-in-None : goal.returns-in-None
returns-in-None c = λ tried h. longest_if_first c.args.codes.now tried c.args.mark (subst (λ (t : List ℕ). BeginsWith c.args.codes.now t) c.mark_text.ensures (c.begins_with.ensures.0 (cc))) (rw c.in-None.is at h)
