-- A text whose pieces are clean and are laid out has no fault.
use Rattle.std.specs.Str.{chars}
use Rattle.std.proofs.Common.{ℕ, suc, ◌≡◌, ◌≤◌, ◌<◌, ◌⊎◌, inl, inr, arith, Bool, true, false, IsTrue, refl, sym, ap, ◌∙◌, subst, List, [], ◌∷◌, ◌++◌, append_assoc, length, All, Contains, nat_lt, nat_le, leb-true, ltb-true}
use Rattle.std.proofs.lemmas.Bool.{and_parts}
use Rattle.std.proofs.lemmas.List.Elements.{All-nil, All-cons}
use Rattle.std.proofs.lemmas.Str.{chars-IsAscii}
use Rattle.std.proofs.lemmas.Str.Ascii.{IsAscii-from_all}
use Rattle.std.specs.List.{list_all}
use Rattle.unicode_normalization.specs.Forms.{IsInForm}
use Rattle.unicode_normalization.specs.declared.Form.TheVariants as normal
use Rattle.unicode_normalization.proofs.FormsLemmas.{normalize-ascii}
use Rattle.py_base.specs.declared.Place.{Place}
use Rattle.py_tokens.specs.declared.piece.Piece.{Piece}
use Rattle.py_tokens.specs.declared.piece.Shape.{Shape}
use Rattle.py_tokens.specs.declared.piece.Shape.TheVariants as shapes
use Rattle.py_tokens.specs.declared.token.Token.{Token}
use Rattle.py_tokens.specs.declared.token.TokenForm.TheVariants as forms
use Rattle.py_tokens.specs.declared.fault.LexFault.{LexFault}
use Rattle.py_tokens.specs.LineLayout.{Fresh, Behind, Between, before_all, Closes, is_open, closes_one, Turns, deeper, not_deeper, width_at, Lays, separates, begins_line, goes_on, ends_line, ends_blank_line, ends_within_brackets, LaidOut}
use Rattle.py_tokens.specs.TextTokens.{PiecesOf, IsNumeral, fits, is_large, BeginsAsName, as_name, as_keyword, as_number, BeginsToken, FreshAfter, IsNewBelow, HasFault, bad_utf8, begins_no_token, after_number, bad_escape, tab_in_indent, bad_dedent, open_string, literal_too_large, name_not_nfkc, name_too_long}
use Rattle.py_tokens.specs.LayoutLaws.{same_laid, laid_apart}
use Rattle.py_tokens.specs.TokenLaws.{same_pieces, no_text_with_bad_byte}
use Rattle.small_text.proofs.BitLayout.{is_plain, is_wordlike, Fits}
use Rattle.small_text.proofs.CleanPieces.{Clean}

-- the shape of a piece that stands behind a word or behind none
abbrev Allowed : Bool → Shape → Type 0
Allowed w s = (s ≡ shapes.LineEnd) ⊎ Fits w s

clean_at : (before rest : List Piece) (x : Piece) (w : Bool) → Clean w (before ++ x ∷ rest) → (v : Bool) × Clean v (x ∷ rest)
clean_at [] rest x w h = (w, h)
clean_at (b ∷ before) rest x w h = clean_at before rest x (is_wordlike b.shape) h.1

no_stray : (w : Bool) → Allowed w shapes.Stray → ⊥
no_stray w (inl e) = cc
no_stray w (inr h) = h

no_escape : (w : Bool) (p : Place) → Allowed w (shapes.BadEscape p) → ⊥
no_escape w p (inl e) = cc
no_escape w p (inr h) = h

no_tab : (w : Bool) → Allowed w shapes.Tab → ⊥
no_tab w (inl e) = cc
no_tab w (inr h) = h

no_open : (w : Bool) → Allowed w shapes.Unclosed → ⊥
no_open w (inl e) = cc
no_open w (inr h) = h

no_large : (w : Bool) → Allowed w shapes.LargeNumber → ⊥
no_large w (inl e) = cc
no_large w (inr h) = h

plain_name : (w : Bool) (name : List ℕ) → Allowed w (shapes.Whole (forms.Name name)) → IsTrue (is_plain name)
plain_name w name (inl e) = cc
plain_name w name (inr h) = h.1

numeral_wordlike : (w : Bool) (s : Shape) → IsNumeral s → Allowed w s → is_wordlike s ≡ true
numeral_wordlike w s (fits n) h = refl
numeral_wordlike w s is_large h = absurd (no_large w h)

no_word_behind : (s : Shape) → BeginsAsName s → Allowed true s → ⊥
no_word_behind s (as_name name) (inl e) = cc
no_word_behind s (as_name name) (inr h) = let k : true ≡ false = h.0 in cc
no_word_behind s (as_keyword k) (inl e) = cc
no_word_behind s (as_keyword k) (inr h) = cc
no_word_behind s (as_number t (fits n)) (inl e) = cc
no_word_behind s (as_number t (fits n)) (inr h) = cc
no_word_behind s (as_number t is_large) h = no_large true h

small_codes : (cs : List ℕ) → list_all (λ c. nat_lt c 128) cs ≡ true → All (λ c. c < 128) cs
small_codes [] h = All-nil (λ c. c < 128)
small_codes (c ∷ cs) h = let k = and_parts (nat_lt c 128) (list_all (λ d. nat_lt d 128) cs) h in All-cons (λ d. d < 128) c cs (ltb-true c 128 k.0) (small_codes cs k.1)

plain_in_form : (name : List ℕ) → IsTrue (is_plain name) → IsInForm normal.Nfkc (chars name)
plain_in_form name h =
    let all = small_codes name (and_parts (list_all (λ c. nat_lt c 128) name) (nat_le (length name) 255) h).0 in
    subst (IsInForm normal.Nfkc) (sym (chars-IsAscii name (IsAscii-from_all name all))) (normalize-ascii normal.Nfkc name all)

plain_short : (name : List ℕ) → IsTrue (is_plain name) → 255 < length name → ⊥
plain_short name h l =
    let k : length name ≤ 255 = leb-true (length name) 255 (and_parts (list_all (λ c. nat_lt c 128) name) (nat_le (length name) 255) h).1 in
    omega (arith, k, l)

-- A width that is open once widths are closed was open before.
open_before : (p : Place) (width : ℕ) (ws : List ℕ) (ts : List Token) (left : List ℕ) → Closes p width ws ts left → Contains ws width
open_before p width ws ts left (is_open vs) = (0, omega arith, refl)
open_before p width ws ts left (closes_one v vs over us l c) = let (k, m, e) = open_before p width vs us left c in (suc k, omega (arith, m), e)

not_new_closed : (p : Place) (width : ℕ) (ws : List ℕ) (ts : List Token) (left : List ℕ) → Closes p width ws ts left → IsNewBelow width ws → ⊥
not_new_closed p width ws ts left (is_open vs) n = omega (arith, n.0)
not_new_closed p width ws ts left (closes_one v vs over us l c) n = n.1 (open_before p width vs us left c)

-- A line that turns to its width doesn't turn to a new one below.
not_new_below : (p : Place) (width : ℕ) (ws : List ℕ) (ts : List Token) (left : List ℕ) → Turns p width ws ts left → IsNewBelow width ws → ⊥
not_new_below p width [] ts left (deeper w us e l f k) n = n
not_new_below p width (v ∷ vs) ts left (deeper w us e l f k) n = let same : v ≡ w = cc in omega (arith, same, l, n.0)
not_new_below p width ws ts left (not_deeper c) n = not_new_closed p width ws ts left c n

-- The first token of a line that is laid out has an open width or a larger one.
no_dedent_laid : (b next : Between) (x : Piece) (ts : List Token) → Lays b x ts next → b.line ≡ Fresh → BeginsToken x.shape → IsNewBelow (width_at x.place) b.widths → ⊥
no_dedent_laid b next x ts (separates (inl e) f g) fresh begins new = subst BeginsToken e begins
no_dedent_laid b next x ts (separates (inr (inl e)) f g) fresh begins new = subst BeginsToken e begins
no_dedent_laid b next x ts (separates (inr (inr e)) f g) fresh begins new = subst BeginsToken e begins
no_dedent_laid b next x ts (begins_line form turn ws e l t f g) fresh begins new = not_new_below x.place (width_at x.place) b.widths turn ws t new
no_dedent_laid b next x ts (goes_on form p e l f g) fresh begins new = let bad : Behind p ≡ Fresh = sym l ∙ fresh in cc
no_dedent_laid b next x ts (ends_line p e l z f g) fresh begins new = subst BeginsToken e begins
no_dedent_laid b next x ts (ends_blank_line e l f g) fresh begins new = subst BeginsToken e begins
no_dedent_laid b next x ts (ends_within_brackets p e l z f g) fresh begins new = subst BeginsToken e begins

no_dedent : (before rest : List Piece) (x : Piece) (ts : List Token) (last b : Between) → LaidOut before_all (before ++ x ∷ rest) ts last → FreshAfter before b → BeginsToken x.shape → IsNewBelow (width_at x.place) b.widths → ⊥
no_dedent before rest x ts last b laid fresh begins new =
    let (front, more, next, e, fore, behind) = laid_apart before (x ∷ rest) before_all ts last laid in
    let (us, there, line) = fresh in
    let same : b ≡ next = (same_laid before before_all us front b next there fore).1 in
    let (own, others, then, f, lays, on) = behind in
    no_dedent_laid next then x own lays (sym (ap (λ (c : Between). c.line) same) ∙ line) begins (subst (λ (c : Between). IsNewBelow (width_at x.place) c.widths) same new)

-- the text's pieces, and how they are laid out
pub record IsSound (bytes : List ℕ) (pieces : List Piece) (laid : List Token) (last : Between) : Type 0 where
  pub cut : PiecesOf bytes pieces
  pub clean : Clean false pieces
  pub layout : LaidOut before_all pieces laid last

-- The piece is allowed where it stands, and those behind it are clean.
allowed : (bytes : List ℕ) (pieces : List Piece) (laid : List Token) (last : Between) (before rest : List Piece) (x : Piece) → IsSound bytes pieces laid last → PiecesOf bytes (before ++ x ∷ rest) → (w : Bool) × Clean w (x ∷ rest)
allowed bytes pieces laid last before rest x sound c = clean_at before rest x false (subst (Clean false) (same_pieces bytes pieces (before ++ x ∷ rest) sound.cut c) sound.clean)

with_shape : (bytes : List ℕ) (pieces : List Piece) (laid : List Token) (last : Between) (before rest : List Piece) (x : Piece) (s : Shape) → IsSound bytes pieces laid last → PiecesOf bytes (before ++ x ∷ rest) → x.shape ≡ s → (w : Bool) × Allowed w s
with_shape bytes pieces laid last before rest x s sound c e =
    let (w, h) = allowed bytes pieces laid last before rest x sound c in
    (w, subst (Allowed w) e h.0)

no_word_at : (bytes : List ℕ) (pieces : List Piece) (laid : List Token) (last : Between) (before rest : List Piece) (number x : Piece) → IsSound bytes pieces laid last → PiecesOf bytes (before ++ number ∷ x ∷ rest) → IsNumeral number.shape → BeginsAsName x.shape → ⊥
no_word_at bytes pieces laid last before rest number x sound c n s =
    let (w, h) = allowed bytes pieces laid last before (x ∷ rest) number sound c in
    no_word_behind x.shape s (subst (λ (b : Bool). Allowed b x.shape) (numeral_wordlike w number.shape n h.0) h.1.0)

no_tab_at : (bytes : List ℕ) (pieces : List Piece) (laid : List Token) (last : Between) (before rest : List Piece) (tab : Piece) → IsSound bytes pieces laid last → PiecesOf bytes (before ++ tab ∷ rest) → tab.shape ≡ shapes.Tab → ⊥
no_tab_at bytes pieces laid last before rest tab sound c e = let (w, h) = with_shape bytes pieces laid last before rest tab shapes.Tab sound c e in no_tab w h

plain_at : (bytes : List ℕ) (pieces : List Piece) (laid : List Token) (last : Between) (before rest : List Piece) (x : Piece) (name : List ℕ) → IsSound bytes pieces laid last → PiecesOf bytes (before ++ x ∷ rest) → x.shape ≡ shapes.Whole (forms.Name name) → IsTrue (is_plain name)
plain_at bytes pieces laid last before rest x name sound c e = let (w, h) = with_shape bytes pieces laid last before rest x (shapes.Whole (forms.Name name)) sound c e in plain_name w name h

-- A sound text has no fault.
pub faultless : (bytes : List ℕ) (pieces : List Piece) (laid : List Token) (last : Between) → IsSound bytes pieces laid last → (f : LexFault) → HasFault bytes f → ⊥
faultless bytes pieces laid last sound f (bad_utf8 p h) = no_text_with_bad_byte bytes p h sound.cut.0
faultless bytes pieces laid last sound f (begins_no_token before rest x c e) = let (w, h) = with_shape bytes pieces laid last before rest x shapes.Stray sound c e in no_stray w h
faultless bytes pieces laid last sound f (after_number before rest number x c n s) = no_word_at bytes pieces laid last before rest number x sound c n s
faultless bytes pieces laid last sound f (bad_escape before rest x p c e) = let (w, h) = with_shape bytes pieces laid last before rest x (shapes.BadEscape p) sound c e in no_escape w p h
faultless bytes pieces laid last sound f (tab_in_indent before spaces blanks rest tab first b c l k n e a s) =
    no_tab_at bytes pieces laid last (before ++ spaces) (blanks ++ first ∷ rest) tab sound (subst (PiecesOf bytes) (append_assoc (before ++ spaces) (tab ∷ blanks) (first ∷ rest)) c) e
faultless bytes pieces laid last sound f (bad_dedent before rest first b c l s w) =
    no_dedent before rest first laid last b (subst (λ (ps : List Piece). LaidOut before_all ps laid last) (same_pieces bytes pieces (before ++ first ∷ rest) sound.cut c) sound.layout) l s w
faultless bytes pieces laid last sound f (open_string before rest x c e) = let (w, h) = with_shape bytes pieces laid last before rest x shapes.Unclosed sound c e in no_open w h
faultless bytes pieces laid last sound f (literal_too_large before rest x c e) = let (w, h) = with_shape bytes pieces laid last before rest x shapes.LargeNumber sound c e in no_large w h
faultless bytes pieces laid last sound f (name_not_nfkc before rest x name c e n) = n (plain_in_form name (plain_at bytes pieces laid last before rest x name sound c e))
faultless bytes pieces laid last sound f (name_too_long before rest x name c e n) = plain_short name (plain_at bytes pieces laid last before rest x name sound c e) n
