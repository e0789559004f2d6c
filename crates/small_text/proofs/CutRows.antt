-- The text of rows is ASCII without CR, and is cut into exactly their pieces.
use Rattle.std.specs.Prelude.{All}
use Rattle.std.specs.List.{list_all, AllByRecursion}
use Rattle.std.proofs.Common.{ℕ, ◌≡◌, ◌+◌, Bool, true, false, arith, refl, sym, subst, subst₂, List, [], ◌∷◌, ◌++◌, append_assoc, append-nil, length, length-append}
use Rattle.std.proofs.lemmas.List.Elements.{recursion_from_All, All-append, All-cons, All-weaker}
use Rattle.py_tokens.specs.declared.piece.Piece.{Piece}
use Rattle.py_tokens.specs.PlacedText.{text_start}
use Rattle.py_tokens.specs.TextPieces.{CutInto, a_line_end}
use Rattle.py_tokens.specs.TextTokens.{PiecesOf}
use Rattle.small_text.specs.TextLines.{is_printable}
use Rattle.small_text.proofs.LineBits.{Bit, Row, blank, remark, head, says, row_bits, row_text, bits_text, bits_pieces, row_pieces, rows_text, rows_pieces, end_piece, at}
use Rattle.small_text.proofs.SmallRows.{IsPassed, IsBody, IsRow}
use Rattle.small_text.proofs.PassedTests.{all_append, all_weaker}
use Rattle.small_text.proofs.PlainText.{is_plain, printable_is_plain, plain_is_utf8, own_characters, after_printable}
use Rattle.small_text.proofs.FittingBits.{AllFit, row_fits}

-- Bits that fit are cut first, and then the rest.
cut_bits : (bs : List Bit) (rest : List ℕ) (more : List Piece) (line col : ℕ) → AllFit bs rest → CutInto (at line (col + length (bits_text bs))) rest more → CutInto (at line col) (bits_text bs ++ rest) (bits_pieces line col bs ++ more)
cut_bits [] rest more line col h k =
    let e : col + 0 ≡ col = omega arith in
    subst (λ (c : ℕ). CutInto (at line c) rest more) e k
cut_bits (b ∷ bs) rest more line col (f, h) k =
    let n = length-append b.text (bits_text bs) in
    let e : col + length (b.text ++ bits_text bs) ≡ col + length b.text + length (bits_text bs) = omega arith in (
      b.text,
      bits_text bs ++ rest,
      append_assoc b.text (bits_text bs) rest,
      f.piece (at line col),
      refl,
      sym (after_printable b.text line col f.printable),
      cut_bits bs rest more line (col + length b.text) h (subst (λ (c : ℕ). CutInto (at line c) rest more) e k),
    )

-- bits that fit are printable
fit_is_plain : (bs : List Bit) (rest : List ℕ) → AllFit bs rest → list_all is_plain (bits_text bs) ≡ true
fit_is_plain [] rest h = refl
fit_is_plain (b ∷ bs) rest (f, h) = all_append is_plain b.text (bits_text bs) (all_weaker is_printable is_plain printable_is_plain b.text f.printable) (fit_is_plain bs rest h)

row_is_plain : (r : Row) → IsRow r → list_all is_plain (row_text r) ≡ true
row_is_plain r h = fit_is_plain (row_bits r) [] (row_fits r [] h refl)

ended_is_plain : (r : Row) (more : List ℕ) → IsRow r → list_all is_plain more ≡ true → list_all is_plain (row_text r ++ 10 ∷ more) ≡ true
ended_is_plain r more h k = all_append is_plain (row_text r) (10 ∷ more) (row_is_plain r h) k

rows_are_plain : (rows : List Row) (ended : Bool) → AllByRecursion IsRow rows → list_all is_plain (rows_text rows ended) ≡ true
rows_are_plain [] ended h = refl
rows_are_plain (r ∷ []) false (h, k) = row_is_plain r h
rows_are_plain (r ∷ []) true (h, k) = ended_is_plain r [] h refl
rows_are_plain (r ∷ s ∷ rows) ended (h, k) = ended_is_plain r (rows_text (s ∷ rows) ended) h (rows_are_plain (s ∷ rows) ended k)

-- a row without its end, and nothing behind it
cut_last : (r : Row) (line : ℕ) → IsRow r → CutInto (at line 1) (row_text r) (row_pieces line r)
cut_last r line h =
    subst₂ (CutInto (at line 1)) (append-nil (row_text r)) (append-nil (row_pieces line r)) (cut_bits (row_bits r) [] [] line 1 (row_fits r [] h refl) refl)

-- a row with its end, and what is behind it
cut_ended : (r : Row) (more : List ℕ) (pieces : List Piece) (line : ℕ) → IsRow r → CutInto (at (line + 1) 1) more pieces → CutInto (at line 1) (row_text r ++ 10 ∷ more) (row_pieces line r ++ end_piece line (1 + length (row_text r)) ∷ pieces)
cut_ended r more pieces line h k =
    cut_bits (row_bits r) (10 ∷ more) (end_piece line (1 + length (row_text r)) ∷ pieces) line 1 (row_fits r (10 ∷ more) h refl) (10 ∷ [], more, refl, a_line_end refl, refl, refl, k)

cut_rows : (rows : List Row) (ended : Bool) (line : ℕ) → AllByRecursion IsRow rows → CutInto (at line 1) (rows_text rows ended) (rows_pieces line rows ended)
cut_rows [] ended line h = refl
cut_rows (r ∷ []) false line (h, k) = cut_last r line h
cut_rows (r ∷ []) true line (h, k) = cut_ended r [] [] line h refl
cut_rows (r ∷ s ∷ rows) ended line (h, k) = cut_ended r (rows_text (s ∷ rows) ended) (rows_pieces (line + 1) (s ∷ rows) ended) line h (cut_rows (s ∷ rows) ended (line + 1) k)

-- The bytes of rows are UTF-8, and are cut into their pieces.
pub cut : (rows : List Row) (ended : Bool) → All IsRow rows → PiecesOf (rows_text rows ended) (rows_pieces 1 rows ended)
cut rows ended h =
    let each : AllByRecursion IsRow rows = recursion_from_All IsRow rows h in
    let plain : list_all is_plain (rows_text rows ended) ≡ true = rows_are_plain rows ended each in
    (plain_is_utf8 (rows_text rows ended) plain, subst (λ (cs : List ℕ). CutInto text_start cs (rows_pieces 1 rows ended)) (sym (own_characters (rows_text rows ended) plain)) (cut_rows rows ended 1 each))

passed_is_row : (r : Row) → IsPassed r → IsRow r
passed_is_row (blank n) h = h
passed_is_row (remark n text) h = h
passed_is_row head h = tt
passed_is_row (says s) h = absurd h

body_is_row : (r : Row) → IsBody r → IsRow r
body_is_row (blank n) h = h
body_is_row (remark n text) h = h
body_is_row head h = tt
body_is_row (says s) h = h

-- the rows of a whole text: those passed over, the head and its body
pub all_are_rows : (skips rows : List Row) → All IsPassed skips → All IsBody rows → All IsRow (skips ++ head ∷ rows)
all_are_rows skips rows h k = All-append IsRow skips (head ∷ rows) (All-weaker IsPassed IsRow passed_is_row skips h) (All-cons IsRow head rows tt (All-weaker IsBody IsRow body_is_row rows k))
