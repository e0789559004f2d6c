-- What stands in front of a piece on its line, and the pieces that show it.
use Rattle.std.specs.Prelude.{All, length}
use Rattle.std.proofs.Common.{ℕ, ℤ, ◌≡◌, ◌+◌, ◌==◌, inl, inr, Bool, true, false, List, [], ◌∷◌, ◌++◌, refl, sym, ap, ◌∙◌, subst, arith, append_assoc, append-nil, length-append}
use Rattle.std.proofs.lemmas.List.Elements.{All-nil, All-cons, All-append}
use Rattle.py_base.specs.declared.Place.{Place}
use Rattle.py_tokens.specs.declared.TokenForm.{TokenForm}
use Rattle.py_tokens.specs.declared.TokenForm.TheVariants as forms
use Rattle.py_tokens.specs.declared.Piece.{Piece}
use Rattle.py_tokens.specs.declared.Shape.{Shape}
use Rattle.py_tokens.specs.declared.Shape.TheVariants as shapes
use Rattle.py_tokens.specs.PlacedText.{after}
use Rattle.py_tokens.specs.TextPieces.{IsPiece}
use Rattle.py_tokens.specs.LineLayout.{Between, Fresh}
use Rattle.py_tokens.specs.TextTokens.{IsSpace, IsBlank, IsNumeral, is_large, FreshAfter}
use Rattle.py_lexer.specs.declared.layout.Layout.{Layout}
use Rattle.py_lexer.specs.declared.layout.LineFront.{LineFront}
use Rattle.py_lexer.specs.declared.layout.LineFront.TheVariants as fronts
use Rattle.py_lexer.specs.Walk.{line_of, layout_past, past_number, past_tab, past_comment, past_line_end, past_form}
use Rattle.py_lexer.proofs.PieceEnds.{space_front, end_front, numeral_of}

-- these pieces, which end at this place, show what stands in front
pub data Shows (done : List Piece) (place : Place) : LineFront → Type 0 where
  shows_spaces : (front spaces : List Piece) (b : Between) → done ≡ front ++ spaces → FreshAfter front b → All IsSpace spaces → length spaces + 1 ≡ place.col → Shows done place fronts.Spaces
  shows_tab : (front spaces blanks : List Piece) (tab : Piece) (b : Between) → done ≡ front ++ spaces ++ tab ∷ blanks → FreshAfter front b → All IsSpace spaces → length spaces + 1 ≡ tab.place.col → tab.shape ≡ shapes.Tab → All IsBlank blanks → Shows done place (fronts.Tab tab.place)
  shows_comment : Shows done place fronts.Comment
  shows_number : (front : List Piece) (number : Piece) (e : Place) → done ≡ front ++ number ∷ [] → IsNumeral number.shape → Shows done place (fronts.Number e)
  shows_behind : (e : Place) → Shows done place (fronts.Behind e)

All-one : (P : Piece → Type 0) (x : Piece) → P x → All P (x ∷ [])
All-one P x h = All-cons P x [] h (All-nil P)

more_blanks : (done front spaces blanks : List Piece) (tab piece : Piece) → done ≡ front ++ spaces ++ tab ∷ blanks → done ++ piece ∷ [] ≡ front ++ spaces ++ tab ∷ (blanks ++ piece ∷ [])
more_blanks done front spaces blanks tab piece e = ap (λ d. d ++ piece ∷ []) e ∙ append_assoc (front ++ spaces) (tab ∷ blanks) (piece ∷ [])

past_space : (done : List Piece) (place : Place) (line : LineFront) (piece : Piece) → piece.shape ≡ shapes.Space → piece.end.col ≡ place.col + 1 → Shows done place line → Shows (done ++ piece ∷ []) piece.end (past_number line)
past_space done place _ piece e ends (shows_spaces front spaces b d fresh all col) =
    let k : length (spaces ++ piece ∷ []) ≡ length spaces + 1 = length-append spaces (piece ∷ []) in
    shows_spaces front (spaces ++ piece ∷ []) b (ap (λ x. x ++ piece ∷ []) d ∙ append_assoc front spaces (piece ∷ [])) fresh (All-append IsSpace spaces (piece ∷ []) all (All-one IsSpace piece e)) (omega (arith, k, col, ends))
past_space done place _ piece e ends (shows_tab front spaces blanks tab b d fresh all col shape blank) =
    shows_tab front spaces (blanks ++ piece ∷ []) tab b (more_blanks done front spaces blanks tab piece d) fresh all col shape (All-append IsBlank blanks (piece ∷ []) blank (All-one IsBlank piece (inl e)))
past_space done place _ piece e ends shows_comment = shows_comment
past_space done place _ piece e ends (shows_number front number q d numeral) = shows_behind q
past_space done place _ piece e ends (shows_behind q) = shows_behind q

past_one_tab : (done : List Piece) (place : Place) (line : LineFront) (piece : Piece) → piece.shape ≡ shapes.Tab → piece.place ≡ place → Shows done place line → Shows (done ++ piece ∷ []) piece.end (past_tab line piece.place)
past_one_tab done place _ piece e at (shows_spaces front spaces b d fresh all col) =
    shows_tab front spaces [] piece b (ap (λ x. x ++ piece ∷ []) d) fresh all (col ∙ sym (ap (λ q. q.col) at)) e (All-nil IsBlank)
past_one_tab done place _ piece e at (shows_tab front spaces blanks tab b d fresh all col shape blank) =
    shows_tab front spaces (blanks ++ piece ∷ []) tab b (more_blanks done front spaces blanks tab piece d) fresh all col shape (All-append IsBlank blanks (piece ∷ []) blank (All-one IsBlank piece (inr e)))
past_one_tab done place _ piece e at shows_comment = shows_comment
past_one_tab done place _ piece e at (shows_number front number q d numeral) = shows_behind q
past_one_tab done place _ piece e at (shows_behind q) = shows_behind q

past_one_comment : (done next : List Piece) (place end : Place) (line : LineFront) → Shows done place line → Shows next end (past_comment line)
past_one_comment done next place end _ (shows_spaces front spaces b d fresh all col) = shows_comment
past_one_comment done next place end _ (shows_tab front spaces blanks tab b d fresh all col shape blank) = shows_comment
past_one_comment done next place end _ shows_comment = shows_comment
past_one_comment done next place end _ (shows_number front number q d numeral) = shows_behind q
past_one_comment done next place end _ (shows_behind q) = shows_behind q

past_token : (form : TokenForm) (done : List Piece) (piece : Piece) → ((z : ℤ) → form ≡ forms.Number z → IsNumeral piece.shape) → Shows (done ++ piece ∷ []) piece.end (past_form form piece.end)
past_token (forms.Name name) done piece h = shows_behind piece.end
past_token (forms.Key k) done piece h = shows_behind piece.end
past_token (forms.Number z) done piece h = shows_number done piece piece.end refl (h z refl)
past_token (forms.Str s) done piece h = shows_behind piece.end
past_token (forms.Mark m) done piece h = shows_behind piece.end
past_token forms.Newline done piece h = shows_behind piece.end
past_token forms.Indent done piece h = shows_behind piece.end
past_token forms.Dedent done piece h = shows_behind piece.end
past_token forms.End done piece h = shows_behind piece.end

starts_line : (next : List Piece) (end : Place) (b : Between) → FreshAfter next b → end.col ≡ 1 → Shows next end fronts.Spaces
starts_line next end b fresh col = shows_spaces next [] b (sym (append-nil next)) fresh (All-nil IsSpace) (omega (arith, col))

past_end_by : (t : Bool) (q : Place) (brackets : ℕ) (next : List Piece) (end : Place) → (brackets == 0) ≡ t → (line_of (past_line_end (fronts.Behind q) brackets) ≡ Fresh → (b : Between) × FreshAfter next b) → end.col ≡ 1 → Shows next end (past_line_end (fronts.Behind q) brackets)
past_end_by true q brackets next end e fresh col = let (b, f) = fresh (rw e refl) in rw e (starts_line next end b f col)
past_end_by false q brackets next end e fresh col = rw e (shows_behind q)

past_end : (line : LineFront) (brackets : ℕ) (next : List Piece) (end : Place) → (line_of (past_line_end line brackets) ≡ Fresh → (b : Between) × FreshAfter next b) → end.col ≡ 1 → Shows next end (past_line_end line brackets)
past_end fronts.Spaces brackets next end fresh col = let (b, f) = fresh refl in starts_line next end b f col
past_end (fronts.Tab q) brackets next end fresh col = let (b, f) = fresh refl in starts_line next end b f col
past_end fronts.Comment brackets next end fresh col = let (b, f) = fresh refl in starts_line next end b f col
past_end (fronts.Number q) brackets next end fresh col = past_end_by (brackets == 0) q brackets next end refl fresh col
past_end (fronts.Behind q) brackets next end fresh col = past_end_by (brackets == 0) q brackets next end refl fresh col

-- what is shown in front of a piece, and then behind it
pub shows_next : (shape : Shape) (done : List Piece) (place : Place) (layout : Layout) (piece : Piece) (front rest : List ℕ) → piece.shape ≡ shape → piece.place ≡ place → IsPiece place front rest piece.shape → piece.end ≡ after place front
    → (line_of (layout_past layout piece shape).line ≡ Fresh → (b : Between) × FreshAfter (done ++ piece ∷ []) b) → Shows done place layout.line → Shows (done ++ piece ∷ []) piece.end (layout_past layout piece shape).line
shows_next (shapes.Whole form) done place layout piece front rest e at is ends fresh shows = past_token form done piece (λ z f. numeral_of place front rest piece.shape z is (e ∙ ap (λ x. shapes.Whole x) f))
shows_next shapes.LargeNumber done place layout piece front rest e at is ends fresh shows = shows_number done piece piece.end refl (subst IsNumeral (sym e) is_large)
shows_next shapes.Space done place layout piece front rest e at is ends fresh shows = past_space done place layout.line piece e (ap (λ q. q.col) (ends ∙ ap (after place) (space_front place front rest piece.shape is e))) shows
shows_next shapes.Tab done place layout piece front rest e at is ends fresh shows = past_one_tab done place layout.line piece e at shows
shows_next shapes.Comment done place layout piece front rest e at is ends fresh shows = past_one_comment done (done ++ piece ∷ []) place piece.end layout.line shows
shows_next shapes.LineEnd done place layout piece front rest e at is ends fresh shows = past_end layout.line layout.brackets (done ++ piece ∷ []) piece.end fresh (ap (λ q. q.col) (ends ∙ ap (after place) (end_front place front rest piece.shape is e)))
shows_next (shapes.BadEscape q) done place layout piece front rest e at is ends fresh shows = shows_behind piece.end
shows_next shapes.Unclosed done place layout piece front rest e at is ends fresh shows = shows_behind piece.end
shows_next shapes.Stray done place layout piece front rest e at is ends fresh shows = shows_behind piece.end
