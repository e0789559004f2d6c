use Rattle.std.proofs.Common.{◌≡◌, ◌≤◌, ◌+◌, length}
use Rattle.py_tokens.specs.PlacedText.{after}
use Rattle.py_lexer.proofs.places.place_after.Given as goal

abbrev pub invariant-codes : goal.invariant-codes
invariant-codes l = record {
  end : after l.end l.rest ≡ after l.fn.place l.fn.codes;
  line : l.end.line + length l.rest ≤ l.fn.place.line + length l.fn.codes;
  col : l.end.col + length l.rest ≤ l.fn.place.col + length l.fn.codes;
}

abbrev pub decreases-codes : goal.decreases-codes
decreases-codes l = length l.rest
