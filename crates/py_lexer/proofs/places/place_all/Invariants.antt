use Rattle.std.proofs.Common.{◌≡◌, ◌≤◌, ◌+◌, ◌++◌, length}
use Rattle.py_tokens.specs.PlacedText.{placed, after, with_line_ends, text_start}
use Rattle.py_lexer.proofs.places.place_all.Given as goal

abbrev pub invariant-codes : goal.invariant-codes
invariant-codes l = record {
  spots : l.spots.items ++ placed l.end (with_line_ends l.rest) ≡ placed text_start (with_line_ends l.codes);
  last : after l.end (with_line_ends l.rest) ≡ after text_start (with_line_ends l.codes);
  line : l.end.line + length l.rest ≤ length l.codes + 1;
  col : l.end.col + length l.rest ≤ length l.codes + 1;
}

abbrev pub decreases-codes : goal.decreases-codes
decreases-codes l = length l.rest
