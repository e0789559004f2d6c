-- The pieces of small texts, none of which has a fault by its shape or by the piece in front of it.
use Rattle.std.proofs.Common.{ℕ, zero, suc, ◌+◌, ◌≡◌, ◌⊎◌, inl, inr, Bool, true, false, refl, subst, List, [], ◌∷◌, ◌++◌, append-nil, length, replicate, All, sym}
use Rattle.std.proofs.lemmas.List.Elements.{All-head, All-tail}
use Rattle.py_tokens.specs.declared.piece.Piece.{Piece}
use Rattle.py_tokens.specs.declared.piece.Shape.TheVariants as shapes
use Rattle.small_text.proofs.LineBits.{Row, blank, remark, head, says, Bit, bit, space, said_bits, head_bits, row_text, bits_pieces, end_piece, row_pieces, rows_pieces}
use Rattle.small_text.proofs.SmallRows.{IsRow}
use Rattle.small_text.proofs.BitLayout.{is_wordlike, is_whole, brackets_past, Fits, Goes, IsSpoken}
use Rattle.small_text.proofs.SpokenRows.{said_spoken, head_spoken}

-- Each piece fits behind the one in front of it, or ends a line.
abbrev pub Clean : Bool → List Piece → Type 0
Clean w [] = Unit {0}
Clean w (p ∷ ps) = ((p.shape ≡ shapes.LineEnd) ⊎ Fits w p.shape) × Clean (is_wordlike p.shape) ps

goes_clean : (w whole : Bool) (n : ℕ) (bs : List Bit) (line col : ℕ) → Goes w whole n bs → Clean w (bits_pieces line col bs)
goes_clean w whole n [] line col h = tt
goes_clean w whole n (b ∷ bs) line col h = (inr h.0, goes_clean (is_wordlike b.shape) (is_whole b.shape) (brackets_past b.shape n) bs line (col + length b.text) h.1)

spoken_clean : (bs : List Bit) (line col : ℕ) → IsSpoken bs → Clean false (bits_pieces line col bs)
spoken_clean bs line col s = goes_clean false false 0 bs line col (subst (Goes false false 0) (sym s.is) s.goes)

spaces_clean : (n : ℕ) (line col : ℕ) (bs : List Bit) → ((c : ℕ) → Clean false (bits_pieces line c bs)) → Clean false (bits_pieces line col (replicate n space ++ bs))
spaces_clean zero line col bs h = h col
spaces_clean (suc n) line col bs h = (inr tt, spaces_clean n line (col + 1) bs h)

row_clean : (line : ℕ) (r : Row) → IsRow r → Clean false (row_pieces line r)
row_clean line (blank n) is = subst (λ (bs : List Bit). Clean false (bits_pieces line 1 bs)) (append-nil (replicate n space)) (spaces_clean n line 1 [] (λ c. tt))
row_clean line (remark n text) is = spaces_clean n line 1 (bit shapes.Comment (35 ∷ text) ∷ []) (λ c. (inr tt, tt))
row_clean line head is = spoken_clean head_bits line 1 head_spoken
row_clean line (says s) is = (inr tt, (inr tt, (inr tt, (inr tt, spoken_clean (said_bits s) line 5 (said_spoken s is)))))

-- the end of a line, and the pieces behind it
clean_then : (xs ys : List Piece) (w : Bool) (line col : ℕ) → Clean w xs → Clean false ys → Clean w (xs ++ end_piece line col ∷ ys)
clean_then [] ys w line col h i = (inl refl, i)
clean_then (x ∷ xs) ys w line col h i = (h.0, clean_then xs ys (is_wordlike x.shape) line col h.1 i)

pub rows_clean : (rows : List Row) (ended : Bool) (line : ℕ) → All IsRow rows → Clean false (rows_pieces line rows ended)
rows_clean [] ended line all = tt
rows_clean (r ∷ []) false line all = row_clean line r (All-head IsRow r [] all)
rows_clean (r ∷ []) true line all = clean_then (row_pieces line r) [] false line (1 + length (row_text r)) (row_clean line r (All-head IsRow r [] all)) tt
rows_clean (r ∷ s ∷ rs) ended line all =
    let on = rows_clean (s ∷ rs) ended (line + 1) (All-tail IsRow r (s ∷ rs) all) in
    clean_then (row_pieces line r) (rows_pieces (line + 1) (s ∷ rs) ended) false line (1 + length (row_text r)) (row_clean line r (All-head IsRow r (s ∷ rs) all)) on
