use Rattle.std.proofs.Common.{◌≡◌, ◌++◌, length, string_bytes, encode_utf8_all}
use Rattle.py_lexer.proofs.pieces.encoded.Given as goal

abbrev pub invariant-codes : goal.invariant-codes
invariant-codes l = string_bytes l.text ++ encode_utf8_all l.rest ≡ encode_utf8_all l.codes

abbrev pub decreases-codes : goal.decreases-codes
decreases-codes l = length l.rest
