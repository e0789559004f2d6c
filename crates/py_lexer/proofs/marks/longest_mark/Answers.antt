use Rattle.std.proofs.Common.{take, arith, List, subst, sym}
use Rattle.std.proofs.lemmas.List.{take_more, take_all}
use Rattle.py_tokens.specs.declared.Mark.{Mark}
use Rattle.py_tokens.specs.declared.Mark.TheVariants as marks
use Rattle.py_lexer.specs.LongestForms.{IsLongestOf}
use Rattle.py_lexer.proofs.marks.longest_mark.Goals as goal

pub loop-mark-preserved : goal.loop-mark-preserved
loop-mark-preserved c = subst (λ (ms : List Mark). IsLongestOf c.args.codes.now ms c.longer_mark-best.result) (sym (take_more c.args.marks.now c.loop-mark.mark-index marks.OpenParen (omega arith))) (c.longer_mark-best.ensures (take c.loop-mark.mark-index c.args.marks.now) c.loop-mark.invariant)

pub returns : goal.returns
returns c = subst (λ (ms : List Mark). IsLongestOf c.args.codes.now ms c.loop-mark.best) (take_all c.loop-mark.mark-index c.args.marks.now (omega arith)) c.loop-mark.invariant
