use Rattle.std.proofs.Common.{List, ◌≤◌, ◌+◌, ◌++◌, length}
use Rattle.py_tokens.specs.declared.Piece.{Piece}
use Rattle.py_tokens.specs.PlacedText.{text_start}
use Rattle.py_tokens.specs.TextPieces.{CutInto}
use Rattle.py_lexer.proofs.cut.cut_all.Given as goal

abbrev pub invariant-pieces : goal.invariant-pieces
invariant-pieces l = record {
  so_far : (more : List Piece) → CutInto l.place l.rest more → CutInto text_start l.codes (l.pieces.items ++ more);
  line : l.place.line + length l.rest ≤ length l.codes + 1;
  col : l.place.col + length l.rest ≤ length l.codes + 1;
}

abbrev pub decreases-pieces : goal.decreases-pieces
decreases-pieces l = length l.rest
