use Rattle.std.proofs.Common.{◌^◌}
use Rattle.py_tokens.specs.WordForms.{number_value}
use Rattle.py_lexer.proofs.LongestNumber.{value_above}
use Rattle.py_lexer.proofs.numbers.unsigned_value.Goals as goal

pub returns-in-None : goal.returns-in-None
returns-in-None c = value_above c.codes.rest.now c.codes.value (number_value c.args.codes.now) (2 ^ 128) c.c-item.result c.in-len1-up.len_at_least c.c-item.is c.if-c-eq95.false (rw c.in-None.is at c.with_digit.ensures) c.codes.invariant
