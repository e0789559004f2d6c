-- The text of two lines has no fault, and its tokens.
use Rattle.std.specs.Prelude.{codes}
use Rattle.std.specs.Str.{chars}
use Rattle.std.proofs.Common.{ℕ, ◌≡◌, ◌<◌, ◌⊎◌, inl, inr, arith, refl, sym, ap, ◌∙◌, subst, List, [], ◌∷◌, ◌++◌, append_assoc, length}
use Rattle.std.proofs.lemmas.List.Elements.{All-nil, All-cons}
use Rattle.unicode_normalization.specs.Forms.{IsInForm}
use Rattle.unicode_normalization.specs.declared.Form.TheVariants as normal
use Rattle.unicode_normalization.proofs.FormsLemmas.{normalize-ascii}
use Rattle.py_base.specs.declared.Place.{Place}
use Rattle.py_tokens.specs.declared.piece.Piece.{Piece}
use Rattle.py_tokens.specs.declared.piece.Shape.{Shape}
use Rattle.py_tokens.specs.declared.piece.Shape.TheVariants as shapes
use Rattle.py_tokens.specs.declared.token.Token.{Token}
use Rattle.py_tokens.specs.declared.token.TokenForm.TheVariants as forms
use Rattle.py_tokens.specs.declared.token.Mark.TheVariants as marks
use Rattle.py_tokens.specs.declared.fault.LexFault.{LexFault}
use Rattle.py_tokens.specs.LineLayout.{Between, Fresh, Behind, before_all, width_at, Lays, LaidOut}
use Rattle.py_tokens.specs.TextTokens.{PiecesOf, IsNumeral, fits, is_large, FreshAfter, IsNewBelow, HasFault, bad_utf8, begins_no_token, after_number, bad_escape, tab_in_indent, bad_dedent, open_string, literal_too_large, name_not_nfkc, name_too_long, Tokens}
use Rattle.py_tokens.specs.TextExamples.{two_lines, two_line_pieces, two_line_tokens, behind_two_lines, two_line_end, at, token_from, piece_at, name_a, name_b}
use Rattle.py_tokens.specs.LayoutLaws.{same_lays}
use Rattle.py_tokens.specs.TokenLaws.{same_pieces, no_text_with_bad_byte}
use Rattle.py_tokens.proofs.TextExamples.{pieces_example, laid_example, ends_example, in_first, fresh, fourth, lays_a, lays_colon, lays_end, lays_space, lays_b}

-- the shapes in the text
abbrev Clean : Shape → Type 0
Clean (shapes.Whole (forms.Name name)) = (name ≡ codes "a") ⊎ (name ≡ codes "b")
Clean (shapes.Whole (forms.Mark m)) = Unit {0}
Clean shapes.Space = Unit {0}
Clean shapes.LineEnd = Unit {0}
Clean shape = ⊥

abbrev Every : List Piece → Type 0
Every [] = Unit {0}
Every (x ∷ xs) = Clean x.shape × Every xs

among : (before rest : List Piece) (x : Piece) → Every (before ++ x ∷ rest) → Clean x.shape
among [] rest x h = h.0
among (b ∷ before) rest x h = among before rest x h.1

clean_piece : (before rest : List Piece) (x : Piece) → PiecesOf two_lines (before ++ x ∷ rest) → Clean x.shape
clean_piece before rest x c = among before rest x (subst Every (same_pieces two_lines two_line_pieces (before ++ x ∷ rest) pieces_example c) (inl refl, (tt, (tt, (tt, (inr refl, tt))))))

not_clean : (before rest : List Piece) (x : Piece) (s : Shape) → PiecesOf two_lines (before ++ x ∷ rest) → x.shape ≡ s → Clean s
not_clean before rest x s c e = subst Clean e (clean_piece before rest x c)

no_numeral : (s : Shape) → Clean s → IsNumeral s → ⊥
no_numeral s h (fits n) = h
no_numeral s h is_large = h

one_letter : (c : ℕ) → c < 128 → IsInForm normal.Nfkc (c ∷ [])
one_letter c l = normalize-ascii normal.Nfkc (c ∷ []) (All-cons (λ d. d < 128) c [] l (All-nil (λ d. d < 128)))

in_form : (name : List ℕ) → (name ≡ codes "a") ⊎ (name ≡ codes "b") → IsInForm normal.Nfkc (chars name)
unfolding chars
in_form name (inl e) = subst (λ (n : List ℕ). IsInForm normal.Nfkc (chars n)) (sym e) (one_letter 97 (omega arith))
in_form name (inr e) = subst (λ (n : List ℕ). IsInForm normal.Nfkc (chars n)) (sym e) (one_letter 98 (omega arith))

short : (name : List ℕ) → (name ≡ codes "a") ⊎ (name ≡ codes "b") → 255 < length name → ⊥
short name (inl e) h = let k : length name ≡ 1 = ap length e in omega (arith, k, h)
short name (inr e) h = let k : length name ≡ 1 = ap length e in omega (arith, k, h)

abbrev behind_space : List Piece
behind_space = piece_at 2 2 2 3 (shapes.Whole name_b) ∷ []

abbrev behind_end : List Piece
behind_end = piece_at 2 1 2 2 shapes.Space ∷ behind_space

abbrev behind_colon : List Piece
behind_colon = piece_at 1 3 2 1 shapes.LineEnd ∷ behind_end

abbrev behind_a : List Piece
behind_a = piece_at 1 2 1 3 (shapes.Whole (forms.Mark marks.Colon)) ∷ behind_colon

-- in front of each piece a fresh line has only the width 0 open
abbrev Flat : Between → Type 0
Flat b = b.line ≡ Fresh → b.widths ≡ 0 ∷ []

abbrev StaysFlat : Between → List Piece → Type 0
StaysFlat b [] = Unit {0}
StaysFlat b (x ∷ xs) = Flat b × ((ts : List Token) (next : Between) → Lays b x ts next → StaysFlat next xs)

flat_at : (before rest : List Piece) (x : Piece) (b last : Between) (ts : List Token) → StaysFlat b (before ++ x ∷ rest) → LaidOut b before ts last → Flat last
flat_at [] rest x b last ts h l = subst Flat (sym l.1) h.0
flat_at (p ∷ before) rest x b last ts h l =
    let (front, more, next, e, lays, on) = l in
    flat_at before rest x next last more (h.1 front next lays) on

step : (b next : Between) (p : Piece) (ts : List Token) (rest : List Piece) → Lays b p ts next → Flat b → StaysFlat next rest → StaysFlat b (p ∷ rest)
step b next p ts rest l f h = (f, λ us other m. subst (λ (n : Between). StaysFlat n rest) (same_lays b p ts us next other l m).1 h)

other_line : (b : Between) (e : Place) → b.line ≡ Behind e → Flat b
other_line b e h k = let bad : Behind e ≡ Fresh = sym h ∙ k in cc

stays_flat : StaysFlat before_all two_line_pieces
stays_flat =
    step before_all (in_first 2) (piece_at 1 1 1 2 (shapes.Whole name_a)) (token_from 1 1 2 name_a ∷ []) behind_a lays_a (λ e. refl)
    (step (in_first 2) (in_first 3) (piece_at 1 2 1 3 (shapes.Whole (forms.Mark marks.Colon))) (token_from 1 2 3 (forms.Mark marks.Colon) ∷ []) behind_colon lays_colon (other_line (in_first 2) (at 1 2) refl)
    (step (in_first 3) fresh (piece_at 1 3 2 1 shapes.LineEnd) (token_from 1 3 3 forms.Newline ∷ []) behind_end lays_end (other_line (in_first 3) (at 1 3) refl)
    (step fresh fresh (piece_at 2 1 2 2 shapes.Space) [] behind_space lays_space (λ e. refl)
    (step fresh behind_two_lines (piece_at 2 2 2 3 (shapes.Whole name_b)) fourth [] lays_b (λ e. refl) tt))))

no_dedent : (before rest : List Piece) (x : Piece) (b : Between) → PiecesOf two_lines (before ++ x ∷ rest) → FreshAfter before b → IsNewBelow (width_at x.place) b.widths → ⊥
no_dedent before rest x b c f n =
    let (ts, laid, fresh_line) = f in
    let flat : Flat b = flat_at before rest x before_all b ts (subst (StaysFlat before_all) (same_pieces two_lines two_line_pieces (before ++ x ∷ rest) pieces_example c) stays_flat) laid in
    let (below, not_in) = subst (IsNewBelow (width_at x.place)) (flat fresh_line) n in
    omega (arith, below)

no_fault : (f : LexFault) → HasFault two_lines f → ⊥
no_fault f (bad_utf8 p h) = no_text_with_bad_byte two_lines p h pieces_example.0
no_fault f (begins_no_token before rest x c e) = not_clean before rest x shapes.Stray c e
no_fault f (after_number before rest x y c n s) = no_numeral x.shape (clean_piece before (y ∷ rest) x c) n
no_fault f (bad_escape before rest x p c e) = not_clean before rest x (shapes.BadEscape p) c e
no_fault f (tab_in_indent before spaces blanks rest x first b c l k n e a s) = not_clean (before ++ spaces) (blanks ++ first ∷ rest) x shapes.Tab (subst (PiecesOf two_lines) (append_assoc (before ++ spaces) (x ∷ blanks) (first ∷ rest)) c) e
no_fault f (bad_dedent before rest x b c l s w) = no_dedent before rest x b c l w
no_fault f (open_string before rest x c e) = not_clean before rest x shapes.Unclosed c e
no_fault f (literal_too_large before rest x c e) = not_clean before rest x shapes.LargeNumber c e
no_fault f (name_not_nfkc before rest x name c e n) = n (in_form name (not_clean before rest x (shapes.Whole (forms.Name name)) c e))
no_fault f (name_too_long before rest x name c e n) = short name (not_clean before rest x (shapes.Whole (forms.Name name)) c e) n

pub tokens_example : Tokens two_lines (two_line_tokens ++ two_line_end)
tokens_example = record {
  pieces = two_line_pieces;
  laid = two_line_tokens;
  last = behind_two_lines;
  closing = two_line_end;
  no_fault = no_fault;
  cut = pieces_example;
  layout = laid_example;
  ends = ends_example;
  all = refl;
}
