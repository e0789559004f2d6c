use Rattle.std.proofs.Common.{refl}
use Rattle.py_lexer.proofs.Begins.{begins_nothing}
use Rattle.py_lexer.proofs.marks.+begins_with.Goals as goal

pub returns-in-empty : goal.returns-in-empty
returns-in-empty t c = (λ _. begins_nothing c.args.codes.now c.args.text.now c.in-empty.len_below, λ _. refl)
