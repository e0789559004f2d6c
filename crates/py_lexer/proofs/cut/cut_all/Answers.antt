use Rattle.std.proofs.Common.{◌≤◌, ◌+◌, ◌++◌, ◌∷◌, [], List, ℕ, arith, subst, sym, ◌∙◌, take, length, append-nil}
use Rattle.py_base.specs.declared.Place.{Place}
use Rattle.py_tokens.specs.declared.Piece.{Piece}
use Rattle.py_tokens.specs.PlacedText.{text_start}
use Rattle.py_tokens.specs.TextPieces.{IsPiece, CutInto}
use Rattle.py_lexer.proofs.Begins.{cut_whole}
use Rattle.py_lexer.proofs.CutMore.{after_within, cut_more, nothing_left}
use Rattle.py_lexer.proofs.cut.cut_all.Goals as goal

pub pieces-preserved : goal.pieces-preserved
pieces-preserved c =
    let front = c.split_at.result.0.now in
    let back = c.split_at.result.1.now in
    let place = c.pieces.place in
    let end = c.place_after-end.result in
    let h : IsPiece place front back c.in_ok-shape.shape = subst (λ (x : List ℕ). IsPiece place x back c.in_ok-shape.shape) (sym c.split_at.ensures.front) (subst (λ (x : List ℕ). IsPiece place (take c.in_ok-shape.len c.pieces.rest.now) x c.in_ok-shape.shape) (sym c.split_at.ensures.back) c.in_ok-shape.ensures.2) in
    let so_far : (more : List Piece) → CutInto end back more → CutInto text_start c.args.codes.now ((c.pieces.pieces.items ++ record { place = place; end = end; shape = c.in_ok-shape.shape } ∷ []) ++ more) = cut_more place end c.pieces.rest.now front back c.in_ok-shape.shape text_start c.args.codes.now c.pieces.pieces.items (cut_whole c.pieces.rest.now c.in_ok-shape.len front back c.split_at.ensures.front c.split_at.ensures.back) h c.place_after-end.ensures c.pieces.invariant.so_far in
    let within : (end.line ≤ place.line + length front) × (end.col ≤ place.col + length front) = subst (λ (x : Place). (x.line ≤ place.line + length front) × (x.col ≤ place.col + length front)) (sym c.place_after-end.ensures) (after_within place front) in
    record {
      so_far = subst (λ (x : List Piece). (more : List Piece) → CutInto end back more → CutInto text_start c.args.codes.now (x ++ more)) (sym c.in_ok-push.ensures.items) so_far;
      line = omega arith;
      col = omega arith;
    }

pub returns : goal.returns
returns c = subst (λ (x : List Piece). CutInto text_start c.args.codes.now x) (append-nil c.pieces.pieces.items) (c.pieces.invariant.so_far [] (nothing_left c.pieces.rest.now (sym c.is_empty.ensures ∙ c.pieces-test.false)))
