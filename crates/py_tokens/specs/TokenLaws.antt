-- A text has one token list or one first fault.
use Rattle.std.specs.Str.{IsUtf8, IsValidUpTo}
use Rattle.std.proofs.Common.{ℕ, ◌≡◌, ◌<◌, arith, refl, sym, ap, ◌∙◌, subst, List, ◌∷◌, ◌++◌, length, take, take_all, le_refl, cond, ◌==◌}
use Rattle.std.proofs.Math.Decide.{dec_lt}
use Rattle.py_base.specs.declared.Place.{Place}
use Rattle.py_tokens.specs.declared.piece.Piece.{Piece}
use Rattle.py_tokens.specs.declared.token.Token.{Token}
use Rattle.py_tokens.specs.declared.fault.LexFault.{LexFault}
use Rattle.py_tokens.specs.declared.fault.LexFault.TheVariants as faults
use Rattle.py_tokens.specs.PlacedText.{text_characters, text_start, after, IsBadByteAt}
use Rattle.py_tokens.specs.LineLayout.{Between, before_all, LaidOut, EndsWith}
use Rattle.py_tokens.specs.TextTokens.{PiecesOf, HasFault, bad_utf8, begins_no_token, after_number, bad_escape, tab_in_indent, bad_dedent, open_string, literal_too_large, name_not_nfkc, name_too_long, place_of, rank_of, IsNotAfter, by_line, by_col, by_rank, IsFirstFault, Tokens}
use Rattle.py_tokens.specs.CutLaws.{same_cut}
use Rattle.py_tokens.specs.LayoutLaws.{same_laid, same_ends}

-- Bytes have one list of pieces.
pub same_pieces : (bytes : List ℕ) (ps qs : List Piece) → PiecesOf bytes ps → PiecesOf bytes qs → ps ≡ qs
same_pieces bytes ps qs h i = same_cut ps qs text_start (text_characters bytes) h.1 i.1

-- Bytes have one list of tokens.
pub same_tokens : (bytes : List ℕ) (ts us : List Token) → Tokens bytes ts → Tokens bytes us → ts ≡ us
same_tokens bytes ts us h i =
    let pieces : i.pieces ≡ h.pieces = same_pieces bytes i.pieces h.pieces i.cut h.cut in
    let (laid, last) = same_laid h.pieces before_all h.laid i.laid h.last i.last h.layout (subst (λ (ps : List Piece). LaidOut before_all ps i.laid i.last) pieces i.layout) in
    let end : Place = after text_start (text_characters bytes) in
    let closing : h.closing ≡ i.closing = same_ends h.last end h.closing i.closing h.ends (subst (λ (b : Between). EndsWith b end i.closing) (sym last) i.ends) in
    h.all ∙ ap (λ (x : List Token). x ++ h.closing) laid ∙ ap (λ (x : List Token). i.laid ++ x) closing ∙ sym i.all

-- Bytes with tokens have no fault.
pub no_fault_with_tokens : (bytes : List ℕ) (ts : List Token) (f : LexFault) → Tokens bytes ts → HasFault bytes f → ⊥
no_fault_with_tokens bytes ts f h i = h.no_fault f i

abbrev fault_at : ℕ → Place → LexFault
fault_at r p = cond (r == 1) (faults.BadUtf8 p) (cond (r == 2) (faults.BadCharacter p) (cond (r == 3) (faults.TabInIndent p) (cond (r == 4) (faults.BadDedent p) (cond (r == 5) (faults.OpenString p) (cond (r == 6) (faults.LiteralTooLarge p) (cond (r == 7) (faults.NameTooLong p) (cond (r == 8) (faults.NameNotNfkc p) (faults.OutOfMemory))))))))

fault_is : (f : LexFault) → fault_at (rank_of f) (place_of f) ≡ f
fault_is (faults.BadUtf8 p) = refl
fault_is (faults.BadCharacter p) = refl
fault_is (faults.TabInIndent p) = refl
fault_is (faults.BadDedent p) = refl
fault_is (faults.OpenString p) = refl
fault_is (faults.LiteralTooLarge p) = refl
fault_is (faults.NameTooLong p) = refl
fault_is (faults.NameNotNfkc p) = refl
fault_is faults.OutOfMemory = refl

-- A place and a rank determine a fault.
pub same_fault : (f g : LexFault) → place_of f ≡ place_of g → rank_of f ≡ rank_of g → f ≡ g
same_fault f g p r = sym (fault_is f) ∙ ap (λ (n : ℕ). fault_at n (place_of f)) r ∙ ap (fault_at (rank_of g)) p ∙ fault_is g

-- Of two faults each of which isn't after the other there is one.
pub not_after_both : (f g : LexFault) → IsNotAfter f g → IsNotAfter g f → f ≡ g
not_after_both f g (by_line l) (by_line m) = absurd (omega (arith, l, m))
not_after_both f g (by_line l) (by_col m n) = absurd (omega (arith, l, m))
not_after_both f g (by_line l) (by_rank e r) = absurd (omega (arith, l, ap (λ (p : Place). p.line) e))
not_after_both f g (by_col k l) (by_line m) = absurd (omega (arith, k, m))
not_after_both f g (by_col k l) (by_col m n) = absurd (omega (arith, l, n))
not_after_both f g (by_col k l) (by_rank e r) = absurd (omega (arith, l, ap (λ (p : Place). p.col) e))
not_after_both f g (by_rank e r) (by_line m) = absurd (omega (arith, m, ap (λ (p : Place). p.line) e))
not_after_both f g (by_rank e r) (by_col m n) = absurd (omega (arith, n, ap (λ (p : Place). p.col) e))
not_after_both f g (by_rank e r) (by_rank d s) = same_fault f g e (omega (arith, r, s))

-- Bytes have one first fault.
pub same_first_fault : (bytes : List ℕ) (f g : LexFault) → IsFirstFault bytes f → IsFirstFault bytes g → f ≡ g
same_first_fault bytes f g h i = not_after_both f g (h.1 g i.0) (i.1 f h.0)

-- Bytes with a bad byte aren't UTF-8.
pub no_text_with_bad_byte : (bytes : List ℕ) (p : Place) → IsBadByteAt bytes p → IsUtf8 bytes → ⊥
no_text_with_bad_byte bytes p h utf8 =
    let (n, upto, e) = h in
    upto.longest (length bytes) upto.short (subst IsUtf8 (sym (take_all (length bytes) bytes (le_refl (length bytes)))) utf8)

-- Bytes have one first bad byte.
pub same_bad_byte : (bytes : List ℕ) (p q : Place) → IsBadByteAt bytes p → IsBadByteAt bytes q → p ≡ q
same_bad_byte bytes p q h i =
    let (n, upto, e) = h in
    let (m, until, f) = i in
    e ∙ ap (λ (k : ℕ). after text_start (text_characters (take k bytes))) (one n m upto until) ∙ sym f
  where
    one : (n m : ℕ) → IsValidUpTo bytes n → IsValidUpTo bytes m → n ≡ m
    one n m u v = by (dec_lt n m) (dec_lt m n)
      where
        by : Dec (n < m) → Dec (m < n) → n ≡ m
        by (yes l) d = absurd (u.longest m l v.front)
        by (no k) (yes l) = absurd (v.longest n l u.front)
        by (no k) (no l) = omega (arith, k, l)

text_with : (bytes : List ℕ) (p : Place) (ps : List Piece) {A : Type 0} → IsBadByteAt bytes p → PiecesOf bytes ps → A
text_with bytes p ps h pieces = absurd (no_text_with_bad_byte bytes p h pieces.0)

alone_with : (bytes : List ℕ) (p : Place) (f : LexFault) → IsBadByteAt bytes p → HasFault bytes f → f ≡ faults.BadUtf8 p
alone_with bytes p f h (bad_utf8 q i) = ap faults.BadUtf8 (same_bad_byte bytes q p i h)
alone_with bytes p f h (begins_no_token before rest piece c s) = text_with bytes p (before ++ piece ∷ rest) h c
alone_with bytes p f h (after_number before rest number piece c n s) = text_with bytes p (before ++ number ∷ piece ∷ rest) h c
alone_with bytes p f h (bad_escape before rest piece q c s) = text_with bytes p (before ++ piece ∷ rest) h c
alone_with bytes p f h (tab_in_indent before spaces blanks rest tab first b c l k n t a s) = text_with bytes p (before ++ spaces ++ tab ∷ blanks ++ first ∷ rest) h c
alone_with bytes p f h (bad_dedent before rest first b c l s w) = text_with bytes p (before ++ first ∷ rest) h c
alone_with bytes p f h (open_string before rest piece c s) = text_with bytes p (before ++ piece ∷ rest) h c
alone_with bytes p f h (literal_too_large before rest piece c s) = text_with bytes p (before ++ piece ∷ rest) h c
alone_with bytes p f h (name_not_nfkc before rest piece name c s n) = text_with bytes p (before ++ piece ∷ rest) h c
alone_with bytes p f h (name_too_long before rest piece name c s n) = text_with bytes p (before ++ piece ∷ rest) h c

bad_byte_of : (bytes : List ℕ) (p : Place) → HasFault bytes (faults.BadUtf8 p) → IsBadByteAt bytes p
bad_byte_of bytes p (bad_utf8 q i) = i

-- A byte that belongs to no whole character is the only fault.
pub bad_byte_alone : (bytes : List ℕ) (p : Place) (f : LexFault) → HasFault bytes (faults.BadUtf8 p) → HasFault bytes f → f ≡ faults.BadUtf8 p
bad_byte_alone bytes p f h i = alone_with bytes p f (bad_byte_of bytes p h) i
