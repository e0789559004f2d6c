-- The lines of a small text are laid out as its tokens.
use Rattle.std.proofs.Common.{ℕ, ◌≡◌, ◌+◌, arith, Bool, true, false, refl, sym, ap, ◌∙◌, subst, List, [], ◌∷◌, ◌++◌, append_assoc, append-nil, length, replicate, All}
use Rattle.std.proofs.lemmas.List.Elements.{All-head, All-tail}
use Rattle.py_tokens.specs.declared.piece.Piece.{Piece}
use Rattle.py_tokens.specs.declared.piece.Shape.TheVariants as shapes
use Rattle.py_tokens.specs.declared.token.Token.{Token}
use Rattle.py_tokens.specs.declared.token.TokenForm.TheVariants as forms
use Rattle.py_tokens.specs.LineLayout.{Line, Fresh, Behind, Between, token_at, is_open, Turns, deeper, not_deeper, ends_line, ends_blank_line, LaidOut, newline_of}
use Rattle.py_tokens.specs.LayoutLaws.{laid_together}
use Rattle.small_text.proofs.LineBits.{Said, Row, blank, remark, head, says, Bit, bit, space, said_bits, head_bits, bits_text, row_text, at, bits_pieces, bits_tokens, end_piece, row_pieces, rows_pieces, line_tokens, body_tokens}
use Rattle.small_text.proofs.SmallRows.{IsSaid, IsPassed, IsBody}
use Rattle.small_text.proofs.BitLayout.{between, spoken_laid, space_laid, spaces_laid, comment_laid}
use Rattle.small_text.proofs.SpokenRows.{said_spoken, head_spoken}

-- These rows bring the tokens, but for the NEWLINE of a last line without its end, and the open widths behind them are these.
pub record Laid (line : ℕ) (rows : List Row) (ended : Bool) (ws : List ℕ) (ts : List Token) (left : List ℕ) : Type 0 where
  pub laid : List Token
  pub last : Line
  pub layout : LaidOut (between Fresh 0 ws) (rows_pieces line rows ended) laid (between last 0 left)
  pub whole : laid ++ newline_of last ≡ ts

-- the line brings these tokens without its end
abbrev RowLaid : ℕ → Row → List ℕ → List Token → Line → List ℕ → Type 0
RowLaid line r ws ts next left = LaidOut (between Fresh 0 ws) (row_pieces line r) ts (between next 0 left)

end_laid : (line col : ℕ) (l : Line) (ws : List ℕ) (rest : List Piece) (ts : List Token) (last : Between) → LaidOut (between Fresh 0 ws) rest ts last → LaidOut (between l 0 ws) (end_piece line col ∷ rest) (newline_of l ++ ts) last
end_laid line col Fresh ws rest ts last h = ([], ts, between Fresh 0 ws, refl, ends_blank_line refl refl refl refl, h)
end_laid line col (Behind e) ws rest ts last h = (token_at e forms.Newline ∷ [], ts, between Fresh 0 ws, refl, ends_line e refl refl refl refl refl, h)

row_ended : (line : ℕ) (r : Row) (ws mid : List ℕ) (ts us : List Token) (next : Line) (rest : List Piece) (last : Between) → RowLaid line r ws ts next mid → LaidOut (between Fresh 0 mid) rest us last
    → LaidOut (between Fresh 0 ws) (row_pieces line r ++ end_piece line (1 + length (row_text r)) ∷ rest) (ts ++ (newline_of next ++ us)) last
row_ended line r ws mid ts us next rest last h on =
    laid_together (row_pieces line r) (end_piece line (1 + length (row_text r)) ∷ rest) (between Fresh 0 ws) (between next 0 mid) last ts (newline_of next ++ us) h (end_laid line (1 + length (row_text r)) next mid rest us last on)

regroup : (ts n us l vs : List Token) → us ++ l ≡ vs → (ts ++ (n ++ us)) ++ l ≡ (ts ++ n) ++ vs
regroup ts n us l vs h = append_assoc ts (n ++ us) l ∙ ap (λ x. ts ++ x) (append_assoc n us l) ∙ sym (append_assoc ts n (us ++ l)) ∙ ap (λ x. (ts ++ n) ++ x) h

-- a last line without its end
last_row : (line : ℕ) (r : Row) (ws mid left : List ℕ) (ts us : List Token) (next : Line) → RowLaid line r ws ts next mid → Laid (line + 1) [] false mid us left → Laid line (r ∷ []) false ws ((ts ++ newline_of next) ++ us) left
last_row line r ws mid left ts us next h on =
    let none : us ≡ [] = sym on.whole ∙ ap (λ x. x ++ newline_of on.last) on.layout.0 ∙ ap (λ (b : Between). newline_of b.line) on.layout.1 in
    let width : mid ≡ left = sym (ap (λ (b : Between). b.widths) on.layout.1) in
    record {
      laid = ts;
      last = next;
      layout = subst (λ w. RowLaid line r ws ts next w) width h;
      whole = sym (append-nil (ts ++ newline_of next)) ∙ ap (λ x. (ts ++ newline_of next) ++ x) (sym none);
    }

-- a line, and lines behind it
next_row : (line : ℕ) (r : Row) (rs : List Row) (ended : Bool) (ws mid left : List ℕ) (ts us : List Token) (next : Line) → RowLaid line r ws ts next mid → Laid (line + 1) rs ended mid us left → Laid line (r ∷ rs) ended ws ((ts ++ newline_of next) ++ us) left
next_row line r [] false ws mid left ts us next h on = last_row line r ws mid left ts us next h on
next_row line r [] true ws mid left ts us next h on = record {
  laid = ts ++ (newline_of next ++ on.laid);
  last = on.last;
  layout = row_ended line r ws mid ts on.laid next [] (between on.last 0 left) h on.layout;
  whole = regroup ts (newline_of next) on.laid (newline_of on.last) us on.whole;
}
next_row line r (s ∷ rs) ended ws mid left ts us next h on = record {
  laid = ts ++ (newline_of next ++ on.laid);
  last = on.last;
  layout = row_ended line r ws mid ts on.laid next (rows_pieces (line + 1) (s ∷ rs) ended) (between on.last 0 left) h on.layout;
  whole = regroup ts (newline_of next) on.laid (newline_of on.last) us on.whole;
}

passed_laid : (line : ℕ) (r : Row) (b : Between) → IsPassed r → LaidOut b (row_pieces line r) [] b
passed_laid line (blank n) b is = subst (λ (bs : List Bit). LaidOut b (bits_pieces line 1 bs) [] b) (append-nil (replicate n space)) (spaces_laid n b line 1 [] (λ c. (refl, refl)))
passed_laid line (remark n text) b is = spaces_laid n b line 1 (bit shapes.Comment (35 ∷ text) ∷ []) (λ c. comment_laid b line c (35 ∷ text))
passed_laid line head b is = absurd is
passed_laid line (says s) b is = absurd is

-- A line that is passed over brings nothing.
passed_row : (line : ℕ) (r : Row) (rs : List Row) (ended : Bool) (ws left : List ℕ) (us : List Token) → IsPassed r → Laid (line + 1) rs ended ws us left → Laid line (r ∷ rs) ended ws us left
passed_row line r rs ended ws left us is on = next_row line r rs ended ws ws left [] us Fresh (passed_laid line r (between Fresh 0 ws) is) on

said_laid : (line : ℕ) (s : Said) (ws left : List ℕ) (turn : List Token) → IsSaid s → Turns (at line 5) 4 ws turn left → RowLaid line (says s) ws (turn ++ bits_tokens line 5 (said_bits s)) (Behind (at line (5 + length (bits_text (said_bits s))))) left
said_laid line s ws left turn is t =
    let bits = said_bits s in
    let b = between Fresh 0 ws in
    let last = between (Behind (at line (5 + length (bits_text bits)))) 0 left in
    let ts = turn ++ bits_tokens line 5 bits in
    let four = space_laid b last line 4 bits ts (spoken_laid bits line 5 ws left turn (said_spoken s is) t) in
    let three = space_laid b last line 3 (space ∷ bits) ts four in
    let two = space_laid b last line 2 (space ∷ space ∷ bits) ts three in
    space_laid b last line 1 (space ∷ space ∷ space ∷ bits) ts two

-- the open widths behind the head
abbrev widths_of : Bool → List ℕ
widths_of true = 4 ∷ 0 ∷ []
widths_of false = 0 ∷ []

-- a statement stands in front of these lines or among them
abbrev pub Speaks : Bool → List Row → Type 0
Speaks true rows = Unit {0}
Speaks false [] = ⊥
Speaks false (blank n ∷ rs) = Speaks false rs
Speaks false (remark n text ∷ rs) = Speaks false rs
Speaks false (head ∷ rs) = Speaks false rs
Speaks false (says s ∷ rs) = Unit {0}

first_said : (line : ℕ) (s : Said) (rs : List Row) (ended : Bool) (us : List Token) → IsSaid s → Laid (line + 1) rs ended (4 ∷ 0 ∷ []) us (4 ∷ 0 ∷ [])
    → Laid line (says s ∷ rs) ended (0 ∷ []) (token_at (at line 5) forms.Indent ∷ (line_tokens line 5 (said_bits s) ++ us)) (4 ∷ 0 ∷ [])
first_said line s rs ended us is on =
    let turn = token_at (at line 5) forms.Indent ∷ [] in
    let row = said_laid line s (0 ∷ []) (4 ∷ 0 ∷ []) turn is (deeper 0 [] refl (omega arith) refl refl) in
    next_row line (says s) rs ended (0 ∷ []) (4 ∷ 0 ∷ []) (4 ∷ 0 ∷ []) (turn ++ bits_tokens line 5 (said_bits s)) us (Behind (at line (5 + length (bits_text (said_bits s))))) row on

later_said : (line : ℕ) (s : Said) (rs : List Row) (ended : Bool) (us : List Token) → IsSaid s → Laid (line + 1) rs ended (4 ∷ 0 ∷ []) us (4 ∷ 0 ∷ [])
    → Laid line (says s ∷ rs) ended (4 ∷ 0 ∷ []) (line_tokens line 5 (said_bits s) ++ us) (4 ∷ 0 ∷ [])
later_said line s rs ended us is on =
    let row = said_laid line s (4 ∷ 0 ∷ []) (4 ∷ 0 ∷ []) [] is (not_deeper (is_open (0 ∷ []))) in
    next_row line (says s) rs ended (4 ∷ 0 ∷ []) (4 ∷ 0 ∷ []) (4 ∷ 0 ∷ []) (bits_tokens line 5 (said_bits s)) us (Behind (at line (5 + length (bits_text (said_bits s))))) row on

-- the lines behind the head
body_laid : (line : ℕ) (indented : Bool) (rows : List Row) (ended : Bool) → All IsBody rows → Speaks indented rows → Laid line rows ended (widths_of indented) (body_tokens line indented rows) (4 ∷ 0 ∷ [])
body_laid line true [] ended all h = record { laid = []; last = Fresh; layout = (refl, refl); whole = refl }
body_laid line false [] ended all h = absurd h
body_laid line true (says s ∷ rs) ended all h = later_said line s rs ended (body_tokens (line + 1) true rs) (All-head IsBody (says s) rs all) (body_laid (line + 1) true rs ended (All-tail IsBody (says s) rs all) tt)
body_laid line false (says s ∷ rs) ended all h = first_said line s rs ended (body_tokens (line + 1) true rs) (All-head IsBody (says s) rs all) (body_laid (line + 1) true rs ended (All-tail IsBody (says s) rs all) tt)
body_laid line true (blank n ∷ rs) ended all h = passed_row line (blank n) rs ended (4 ∷ 0 ∷ []) (4 ∷ 0 ∷ []) (body_tokens (line + 1) true rs) (All-head IsBody (blank n) rs all) (body_laid (line + 1) true rs ended (All-tail IsBody (blank n) rs all) tt)
body_laid line false (blank n ∷ rs) ended all h = passed_row line (blank n) rs ended (0 ∷ []) (4 ∷ 0 ∷ []) (body_tokens (line + 1) false rs) (All-head IsBody (blank n) rs all) (body_laid (line + 1) false rs ended (All-tail IsBody (blank n) rs all) h)
body_laid line true (remark n text ∷ rs) ended all h =
    passed_row line (remark n text) rs ended (4 ∷ 0 ∷ []) (4 ∷ 0 ∷ []) (body_tokens (line + 1) true rs) (All-head IsBody (remark n text) rs all) (body_laid (line + 1) true rs ended (All-tail IsBody (remark n text) rs all) tt)
body_laid line false (remark n text ∷ rs) ended all h =
    passed_row line (remark n text) rs ended (0 ∷ []) (4 ∷ 0 ∷ []) (body_tokens (line + 1) false rs) (All-head IsBody (remark n text) rs all) (body_laid (line + 1) false rs ended (All-tail IsBody (remark n text) rs all) h)
body_laid line indented (head ∷ rs) ended all h = absurd (All-head IsBody head rs all)

head_laid : (line : ℕ) → RowLaid line head (0 ∷ []) (bits_tokens line 1 head_bits) (Behind (at line (1 + length (bits_text head_bits)))) (0 ∷ [])
head_laid line = spoken_laid head_bits line 1 (0 ∷ []) (0 ∷ []) [] head_spoken (not_deeper (is_open []))

skips_laid : (skips : List Row) (r : Row) (rs : List Row) (ended : Bool) (line n : ℕ) (ws left : List ℕ) (ts : List Token) → All IsPassed skips → n ≡ line + length skips → Laid n (r ∷ rs) ended ws ts left → Laid line (skips ++ r ∷ rs) ended ws ts left
skips_laid [] r rs ended line n ws left ts all e h = let k : n ≡ line = omega (arith, e) in subst (λ (m : ℕ). Laid m (r ∷ rs) ended ws ts left) k h
skips_laid (x ∷ skips) r rs ended line n ws left ts all e h =
    let k : n ≡ line + 1 + length skips = omega (arith, e) in
    passed_row line x (skips ++ r ∷ rs) ended ws left ts (All-head IsPassed x skips all) (skips_laid skips r rs ended (line + 1) n ws left ts (All-tail IsPassed x skips all) k h)

-- The lines of a small text bring its tokens up to the last NEWLINE.
pub small_laid : (skips rows : List Row) (ended : Bool) → All IsPassed skips → All IsBody rows → Speaks false rows
    → Laid 1 (skips ++ head ∷ rows) ended (0 ∷ []) (line_tokens (1 + length skips) 1 head_bits ++ body_tokens (1 + length skips + 1) false rows) (4 ∷ 0 ∷ [])
small_laid skips rows ended passed bodies h =
    let line = 1 + length skips in
    let body = body_laid (line + 1) false rows ended bodies h in
    let whole = next_row line head rows ended (0 ∷ []) (0 ∷ []) (4 ∷ 0 ∷ []) (bits_tokens line 1 head_bits) (body_tokens (line + 1) false rows) (Behind (at line (1 + length (bits_text head_bits)))) (head_laid line) body in
    skips_laid skips head rows ended 1 line (0 ∷ []) (4 ∷ 0 ∷ []) (line_tokens line 1 head_bits ++ body_tokens (line + 1) false rows) passed refl whole
