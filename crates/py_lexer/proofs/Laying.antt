-- A piece without a fault is laid out as the definition says.
use Rattle.std.proofs.Common.{ℕ, ◌≡◌, ◌<◌, ◌==◌, inl, inr, Bool, true, false, List, [], ◌∷◌, ◌++◌, refl, sym, ap, Option, Some, None, cond}
use Rattle.py_base.specs.declared.Place.{Place}
use Rattle.py_tokens.specs.declared.TokenForm.{TokenForm}
use Rattle.py_tokens.specs.declared.TokenForm.TheVariants as forms
use Rattle.py_tokens.specs.declared.Piece.{Piece}
use Rattle.py_tokens.specs.declared.Shape.{Shape}
use Rattle.py_tokens.specs.declared.Shape.TheVariants as shapes
use Rattle.py_tokens.specs.declared.LexFault.{LexFault}
use Rattle.py_tokens.specs.LineLayout.{Line, Fresh, Behind, Between, Lays, separates, begins_line, goes_on, ends_line, ends_blank_line, ends_within_brackets, brackets_behind, width_at, token_of}
use Rattle.py_lexer.specs.declared.layout.Layout.{Layout}
use Rattle.py_lexer.specs.declared.layout.LineFront.{LineFront}
use Rattle.py_lexer.specs.declared.layout.LineFront.TheVariants as fronts
use Rattle.py_lexer.specs.Walk.{line_of, between_of, fault_of, first_of, is_new_below, tokens_of, newlines_of, next_layout, past_number, past_tab, past_comment, past_line_end, past_form, turn_tokens, turn_widths}
use Rattle.py_lexer.proofs.Turning.{Stands, turns, same_number, not_zero}

abbrev pub piece_of : Place → Place → Shape → Piece
piece_of p e shape = record { place = p; end = e; shape = shape }

abbrev pub layout_of : LineFront → ℕ → List ℕ → Layout
layout_of line brackets ws = record { line = line; brackets = brackets; widths = ws }

abbrev pub between : Line → ℕ → List ℕ → Between
between line brackets ws = record { line = line; brackets = brackets; widths = ws }

same_line : (l m : Line) (brackets : ℕ) (ws : List ℕ) → l ≡ m → between l brackets ws ≡ between m brackets ws
same_line l m brackets ws h = ap (λ x. between x brackets ws) h

pub number_line : (line : LineFront) → line_of (past_number line) ≡ line_of line
number_line fronts.Spaces = refl
number_line (fronts.Tab p) = refl
number_line fronts.Comment = refl
number_line (fronts.Number e) = refl
number_line (fronts.Behind e) = refl

pub tab_line : (line : LineFront) (p : Place) → line_of (past_tab line p) ≡ line_of line
tab_line fronts.Spaces p = refl
tab_line (fronts.Tab q) p = refl
tab_line fronts.Comment p = refl
tab_line (fronts.Number e) p = refl
tab_line (fronts.Behind e) p = refl

comment_line : (line : LineFront) → line_of (past_comment line) ≡ line_of line
comment_line fronts.Spaces = refl
comment_line (fronts.Tab p) = refl
comment_line fronts.Comment = refl
comment_line (fronts.Number e) = refl
comment_line (fronts.Behind e) = refl

pub form_line : (form : TokenForm) (e : Place) → Behind e ≡ line_of (past_form form e)
form_line (forms.Name name) e = refl
form_line (forms.Key k) e = refl
form_line (forms.Number n) e = refl
form_line (forms.Str s) e = refl
form_line (forms.Mark m) e = refl
form_line forms.Newline e = refl
form_line forms.Indent e = refl
form_line forms.Dedent e = refl
form_line forms.End e = refl

lays_end_by : (b : Bool) (q : Place) (brackets : ℕ) (ws : List ℕ) (p e : Place) → (brackets == 0) ≡ b → Lays (between (Behind q) brackets ws) (piece_of p e shapes.LineEnd) (newlines_of (Behind q) brackets) (between (line_of (past_line_end (fronts.Behind q) brackets)) brackets ws)
lays_end_by true q brackets ws p e h = let k : brackets ≡ 0 = same_number brackets 0 h in rw h (ends_line q refl refl k refl (ap (λ n. between Fresh n ws) k))
lays_end_by false q brackets ws p e h = let k : 0 < brackets = not_zero brackets h in rw h (ends_within_brackets q refl refl k refl refl)

lays_line_end : (line : LineFront) (brackets : ℕ) (ws : List ℕ) (p e : Place) → Lays (between (line_of line) brackets ws) (piece_of p e shapes.LineEnd) (newlines_of (line_of line) brackets) (between (line_of (past_line_end line brackets)) brackets ws)
lays_line_end fronts.Spaces brackets ws p e = ends_blank_line refl refl refl refl
lays_line_end (fronts.Tab q) brackets ws p e = ends_blank_line refl refl refl refl
lays_line_end fronts.Comment brackets ws p e = ends_blank_line refl refl refl refl
lays_line_end (fronts.Number q) brackets ws p e = lays_end_by (brackets == 0) q brackets ws p e refl
lays_line_end (fronts.Behind q) brackets ws p e = lays_end_by (brackets == 0) q brackets ws p e refl

not_new : (b : Bool) (f : LexFault) (other : Option LexFault) → first_of (cond b (Some f) None) other ≡ None → b ≡ false
not_new true f other h = cc
not_new false f other h = refl

never : (first : Option LexFault) (f : LexFault) → first_of first (Some f) ≡ None → ⊥
never (Some g) f h = cc
never None f h = cc

lays_first : (form : TokenForm) (brackets : ℕ) (ws : List ℕ) (p e : Place) → Stands ws → is_new_below (width_at p) ws ≡ false
    → Lays (between Fresh brackets ws) (piece_of p e (shapes.Whole form)) (turn_tokens p (width_at p) ws ++ token_of (piece_of p e (shapes.Whole form)) form ∷ []) (between (line_of (past_form form e)) (brackets_behind form brackets) (turn_widths (width_at p) ws))
lays_first form brackets ws p e stands new =
    begins_line form (turn_tokens p (width_at p) ws) (turn_widths (width_at p) ws) refl refl (turns p (width_at p) ws stands new).0 refl (same_line _ _ (brackets_behind form brackets) (turn_widths (width_at p) ws) (sym (form_line form e)))

lays_more : (form : TokenForm) (q : Place) (brackets : ℕ) (ws : List ℕ) (p e : Place)
    → Lays (between (Behind q) brackets ws) (piece_of p e (shapes.Whole form)) (token_of (piece_of p e (shapes.Whole form)) form ∷ []) (between (line_of (past_form form e)) (brackets_behind form brackets) ws)
lays_more form q brackets ws p e = goes_on form q refl refl refl (same_line _ _ (brackets_behind form brackets) ws (sym (form_line form e)))

lays_token : (line : LineFront) (form : TokenForm) (brackets : ℕ) (ws : List ℕ) (p e : Place) → Stands ws → fault_of line ws (piece_of p e (shapes.Whole form)) ≡ None
    → Lays (between (line_of line) brackets ws) (piece_of p e (shapes.Whole form)) (tokens_of (layout_of line brackets ws) (piece_of p e (shapes.Whole form)) (shapes.Whole form)) (between_of (next_layout (layout_of line brackets ws) (piece_of p e (shapes.Whole form)))) × Stands (next_layout (layout_of line brackets ws) (piece_of p e (shapes.Whole form))).widths
lays_token fronts.Spaces form brackets ws p e stands h = let new : is_new_below (width_at p) ws ≡ false = not_new _ _ _ h in (lays_first form brackets ws p e stands new, (turns p (width_at p) ws stands new).1)
lays_token (fronts.Tab q) form brackets ws p e stands h = cc
lays_token fronts.Comment form brackets ws p e stands h = let new : is_new_below (width_at p) ws ≡ false = not_new _ _ _ h in (lays_first form brackets ws p e stands new, (turns p (width_at p) ws stands new).1)
lays_token (fronts.Number q) form brackets ws p e stands h = (lays_more form q brackets ws p e, stands)
lays_token (fronts.Behind q) form brackets ws p e stands h = (lays_more form q brackets ws p e, stands)

-- what the pass writes for a piece without a fault, and what stands behind it
abbrev pub Laid : Layout → Piece → Type 0
Laid layout piece = Lays (between_of layout) piece (tokens_of layout piece piece.shape) (between_of (next_layout layout piece)) × Stands (next_layout layout piece).widths

laid_by : (shape : Shape) (line : LineFront) (brackets : ℕ) (ws : List ℕ) (p e : Place) → Stands ws → fault_of line ws (piece_of p e shape) ≡ None → Laid (layout_of line brackets ws) (piece_of p e shape)
laid_by (shapes.Whole form) line brackets ws p e stands h = lays_token line form brackets ws p e stands h
laid_by shapes.LargeNumber line brackets ws p e stands h = absurd (never _ _ h)
laid_by shapes.Space line brackets ws p e stands h = (separates (inl refl) refl (same_line _ _ brackets ws (number_line line)), stands)
laid_by shapes.Tab line brackets ws p e stands h = (separates (inr (inl refl)) refl (same_line _ _ brackets ws (tab_line line p)), stands)
laid_by shapes.Comment line brackets ws p e stands h = (separates (inr (inr refl)) refl (same_line _ _ brackets ws (comment_line line)), stands)
laid_by shapes.LineEnd line brackets ws p e stands h = (lays_line_end line brackets ws p e, stands)
laid_by (shapes.BadEscape q) line brackets ws p e stands h = absurd (never _ _ h)
laid_by shapes.Unclosed line brackets ws p e stands h = absurd (never _ _ h)
laid_by shapes.Stray line brackets ws p e stands h = absurd (never _ _ h)

pub is_laid : (layout : Layout) (piece : Piece) → Stands layout.widths → fault_of layout.line layout.widths piece ≡ None → Laid layout piece
is_laid layout piece stands h = laid_by piece.shape layout.line layout.brackets layout.widths piece.place piece.end stands h
