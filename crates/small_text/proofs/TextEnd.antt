-- Where a text of lines ends.
use Rattle.std.proofs.Common.{ℕ, ◌≡◌, ◌+◌, ◌<◌, ◌==◌, arith, Bool, true, false, cond, sym, ap, ◌∙◌, List, [], ◌∷◌, ◌++◌, append-nil, length, ne_eqb}
use Rattle.py_base.specs.declared.Place.{Place}
use Rattle.py_tokens.specs.declared.piece.Piece.{Piece}
use Rattle.py_tokens.specs.PlacedText.{after, text_start}
use Rattle.py_tokens.specs.PlaceLaws.{after-append}
use Rattle.py_tokens.specs.TextPieces.{CutInto}
use Rattle.py_tokens.specs.LineLayout.{end_place}
use Rattle.small_text.proofs.LineBits.{Bit, Row, row_bits, row_text, bits_text, IsClosed, at, bits_pieces, end_piece, row_pieces, rows_pieces}
use Rattle.small_text.proofs.BitLayout.{line_end}

-- the end of the last piece
abbrev end_of : Place → List Piece → Place
end_of p [] = p
end_of p (x ∷ xs) = end_of x.«end» xs

cut_ends : (ps : List Piece) (p : Place) (cs : List ℕ) → CutInto p cs ps → after p cs ≡ end_of p ps
cut_ends [] p cs h = ap (after p) h
cut_ends (x ∷ ps) p cs h =
    let (front, rest, e, is, there, ends, on) = h in
    ap (after p) e ∙ after-append front rest p ∙ ap (λ (q : Place). after q rest) (sym ends) ∙ cut_ends ps x.«end» rest on

bits_end : (bs : List Bit) (line col : ℕ) (rest : List Piece) → end_of (at line col) (bits_pieces line col bs ++ rest) ≡ end_of (at line (col + length (bits_text bs))) rest
bits_end [] line col rest = let k : col ≡ col + length (bits_text []) = omega arith in ap (λ (c : ℕ). end_of (at line c) rest) k
bits_end (b ∷ bs) line col rest = bits_end bs line (col + length b.text) rest ∙ ap (λ (q : Place). end_of q rest) (line_end line col b.text (bits_text bs))

-- A line that has a character ends on the line behind it.
open_end : (line n : ℕ) → 0 < n → end_place (at line (1 + n)) ≡ at (line + 1) 1
open_end line n h =
    let k : (1 + n == 1) ≡ false = ne_eqb (1 + n) 1 (λ e. omega (arith, h, e)) in
    ap (λ (b : Bool). cond b (at line (1 + n)) (at (line + 1) 1)) k

row_end : (line : ℕ) (r : Row) (rest : List Piece) → end_of (at line 1) (row_pieces line r ++ end_piece line (1 + length (row_text r)) ∷ rest) ≡ end_of (at (line + 1) 1) rest
row_end line r rest = bits_end (row_bits r) line 1 (end_piece line (1 + length (row_text r)) ∷ rest)

rows_end : (rows : List Row) (ended : Bool) (line : ℕ) → IsClosed rows ended → end_place (end_of (at line 1) (rows_pieces line rows ended)) ≡ at (line + length rows) 1
rows_end [] ended line h = let k : line ≡ line + length {A = Row} [] = omega arith in ap (λ (l : ℕ). at l 1) k
rows_end (r ∷ []) false line h =
    let e : end_of (at line 1) (row_pieces line r) ≡ at line (1 + length (row_text r)) = ap (end_of (at line 1)) (sym (append-nil (row_pieces line r))) ∙ bits_end (row_bits r) line 1 [] in
    ap end_place e ∙ open_end line (length (row_text r)) h
rows_end (r ∷ []) true line h = ap end_place (row_end line r [])
rows_end (r ∷ s ∷ rs) ended line h =
    let k : line + 1 + length (s ∷ rs) ≡ line + length (r ∷ s ∷ rs) = omega arith in
    ap end_place (row_end line r (rows_pieces (line + 1) (s ∷ rs) ended)) ∙ rows_end (s ∷ rs) ended (line + 1) h ∙ ap (λ (l : ℕ). at l 1) k

-- A text of lines ends in column 1 of the line behind its last one.
pub text_end : (rows : List Row) (ended : Bool) (cs : List ℕ) → IsClosed rows ended → CutInto text_start cs (rows_pieces 1 rows ended) → end_place (after text_start cs) ≡ at (1 + length rows) 1
text_end rows ended cs closed cut = ap end_place (cut_ends (rows_pieces 1 rows ended) text_start cs cut) ∙ rows_end rows ended 1 closed
