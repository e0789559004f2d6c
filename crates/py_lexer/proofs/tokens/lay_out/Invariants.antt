use Rattle.std.proofs.Common.{◌≡◌, ◌≤◌, ◌+◌, [], length}
use Rattle.std.specs.Vec.Iter.{into_iter_items}
use Rattle.py_lexer.specs.Walk.{walked, first_layout, AreTextNames}
use Rattle.py_lexer.proofs.tokens.lay_out.Given as goal

abbrev pub invariant-pieces : goal.invariant-pieces
invariant-pieces l = record {
  same : walked l.place l.layout l.tokens.items (into_iter_items l.piece-iterator) ≡ walked l.place first_layout [] l.fn.pieces.items;
  names : AreTextNames (into_iter_items l.piece-iterator);
  few : l.layout.brackets + length (into_iter_items l.piece-iterator) ≤ length l.fn.pieces.items;
}
