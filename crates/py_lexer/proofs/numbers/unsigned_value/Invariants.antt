use Rattle.std.proofs.Common.{◌≡◌, length}
use Rattle.py_tokens.specs.WordForms.{number_value}
use Rattle.py_lexer.proofs.LongestNumber.{value_from}
use Rattle.py_lexer.proofs.numbers.unsigned_value.Given as goal

abbrev pub invariant-codes : goal.invariant-codes
invariant-codes l = value_from l.value l.rest ≡ number_value l.codes

abbrev pub decreases-codes : goal.decreases-codes
decreases-codes l = length l.rest
