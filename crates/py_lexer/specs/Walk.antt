-- One pass over the pieces of a text: what stands in front of a piece, the fault that it has there, and the tokens that it brings.
use Rattle.std.specs.Prelude.{ℕ, ◌==◌, ◌≡◌, ◌&&◌, nat_lt, Bool, true, false, not, List, [], ◌∷◌, ◌++◌, length, if◌then◌else◌, Option, Some, None, Result, Ok, Err}
use Rattle.std.specs.List.{list_any}
use Rattle.std.specs.Str.{IsUtf8, chars}
use Rattle.unicode_normalization.specs.Forms.{is_in_form}
use Rattle.unicode_normalization.specs.declared.Form.TheVariants as normal
use Rattle.py_base.specs.declared.Place.{Place}
use Rattle.py_tokens.specs.declared.Token.{Token}
use Rattle.py_tokens.specs.declared.TokenForm.{TokenForm}
use Rattle.py_tokens.specs.declared.TokenForm.TheVariants as forms
use Rattle.py_tokens.specs.declared.Piece.{Piece}
use Rattle.py_tokens.specs.declared.Shape.{Shape}
use Rattle.py_tokens.specs.declared.Shape.TheVariants as shapes
use Rattle.py_tokens.specs.declared.LexFault.{LexFault}
use Rattle.py_tokens.specs.declared.LexFault.TheVariants as faults
use Rattle.py_tokens.specs.LineLayout.{Line, Fresh, Behind, Between, brackets_behind, token_of, token_at, width_at, end_place, last_newline}
use Rattle.py_lexer.specs.declared.layout.Layout.{Layout}
use Rattle.py_lexer.specs.declared.layout.LineFront.{LineFront}
use Rattle.py_lexer.specs.declared.layout.LineFront.TheVariants as fronts

-- the line as the definition has it
abbrev pub line_of : LineFront → Line
line_of fronts.Spaces = Fresh
line_of (fronts.Tab p) = Fresh
line_of fronts.Comment = Fresh
line_of (fronts.Number e) = Behind e
line_of (fronts.Behind e) = Behind e

abbrev pub between_of : Layout → Between
between_of layout = record { line = line_of layout.line; brackets = layout.brackets; widths = layout.widths }

abbrev pub begins_token : Shape → Bool
begins_token (shapes.Whole form) = true
begins_token shapes.LargeNumber = true
begins_token (shapes.BadEscape p) = true
begins_token shapes.Unclosed = true
begins_token shape = false

abbrev pub form_begins_as_name : TokenForm → Bool
form_begins_as_name (forms.Name name) = true
form_begins_as_name (forms.Key k) = true
form_begins_as_name (forms.Number n) = true
form_begins_as_name form = false

-- whether the piece has a name character or a digit in front
abbrev pub begins_as_name : Shape → Bool
begins_as_name (shapes.Whole form) = form_begins_as_name form
begins_as_name shapes.LargeNumber = true
begins_as_name shape = false

abbrev pub newest : List ℕ → ℕ
newest [] = 0
newest (w ∷ ws) = w

-- whether the width is smaller than the newest, and isn't open
abbrev pub is_new_below : ℕ → List ℕ → Bool
is_new_below width ws = nat_lt width (newest ws) && not (list_any (λ w. w == width) ws)

abbrev pub dedent_fault : List ℕ → Piece → Option LexFault
dedent_fault ws piece = if begins_token piece.shape && is_new_below (width_at piece.place) ws then Some (faults.BadDedent piece.place) else None

-- the fault of a piece by what stands in front of it on its line
abbrev pub front_fault : LineFront → List ℕ → Piece → Option LexFault
front_fault fronts.Spaces ws piece = dedent_fault ws piece
front_fault (fronts.Tab p) ws piece = if begins_token piece.shape then Some (faults.TabInIndent p) else None
front_fault fronts.Comment ws piece = dedent_fault ws piece
front_fault (fronts.Number e) ws piece = if begins_as_name piece.shape then Some (faults.BadCharacter piece.place) else None
front_fault (fronts.Behind e) ws piece = None

abbrev pub name_fault : Place → List ℕ → Option LexFault
name_fault p name = if nat_lt 255 (length name) then Some (faults.NameTooLong p) else (if is_in_form normal.Nfkc (chars name) then None else Some (faults.NameNotNfkc p))

abbrev pub form_fault : Place → TokenForm → Option LexFault
form_fault p (forms.Name name) = name_fault p name
form_fault p form = None

-- the fault of a piece by itself
abbrev pub shape_fault : Place → Shape → Option LexFault
shape_fault p (shapes.Whole form) = form_fault p form
shape_fault p shapes.LargeNumber = Some (faults.LiteralTooLarge p)
shape_fault p (shapes.BadEscape q) = Some (faults.BadCharacter q)
shape_fault p shapes.Unclosed = Some (faults.OpenString p)
shape_fault p shapes.Stray = Some (faults.BadCharacter p)
shape_fault p shape = None

abbrev pub first_of : Option LexFault → Option LexFault → Option LexFault
first_of (Some f) other = Some f
first_of None other = other

-- the first fault of a piece
abbrev pub fault_of : LineFront → List ℕ → Piece → Option LexFault
fault_of line ws piece = first_of (front_fault line ws piece) (shape_fault piece.place piece.shape)

-- the DEDENTs down to a width, and the widths that are open then
abbrev pub dedents_of : Place → ℕ → List ℕ → List Token
dedents_of p width [] = []
dedents_of p width (w ∷ ws) = if nat_lt width w then token_at p forms.Dedent ∷ dedents_of p width ws else []

abbrev pub left_of : ℕ → List ℕ → List ℕ
left_of width [] = []
left_of width (w ∷ ws) = if nat_lt width w then left_of width ws else w ∷ ws

abbrev pub turn_tokens : Place → ℕ → List ℕ → List Token
turn_tokens p width ws = if nat_lt (newest ws) width then token_at p forms.Indent ∷ [] else dedents_of p width ws

abbrev pub turn_widths : ℕ → List ℕ → List ℕ
turn_widths width ws = if nat_lt (newest ws) width then width ∷ ws else left_of width ws

-- the line behind a space or a comment: what follows doesn't stand straight after a number
abbrev pub past_number : LineFront → LineFront
past_number (fronts.Number e) = fronts.Behind e
past_number line = line

abbrev pub past_tab : LineFront → Place → LineFront
past_tab fronts.Spaces p = fronts.Tab p
past_tab line p = past_number line

abbrev pub past_comment : LineFront → LineFront
past_comment (fronts.Number e) = fronts.Behind e
past_comment (fronts.Behind e) = fronts.Behind e
past_comment line = fronts.Comment

abbrev pub past_form : TokenForm → Place → LineFront
past_form (forms.Number n) e = fronts.Number e
past_form form e = fronts.Behind e

-- the line behind an end of a line, and the tokens of that end
abbrev pub past_line_end : LineFront → ℕ → LineFront
past_line_end (fronts.Number e) brackets = if brackets == 0 then fronts.Spaces else fronts.Behind e
past_line_end (fronts.Behind e) brackets = if brackets == 0 then fronts.Spaces else fronts.Behind e
past_line_end line brackets = fronts.Spaces

abbrev pub newlines_of : Line → ℕ → List Token
newlines_of Fresh brackets = []
newlines_of (Behind e) brackets = if brackets == 0 then token_at e forms.Newline ∷ [] else []

abbrev pub form_turn : Line → List ℕ → Place → List Token
form_turn Fresh ws p = turn_tokens p (width_at p) ws
form_turn (Behind e) ws p = []

abbrev pub form_widths : Line → List ℕ → Place → List ℕ
form_widths Fresh ws p = turn_widths (width_at p) ws
form_widths (Behind e) ws p = ws

-- the tokens that a piece brings
abbrev pub tokens_of : Layout → Piece → Shape → List Token
tokens_of layout piece shapes.LineEnd = newlines_of (line_of layout.line) layout.brackets
tokens_of layout piece (shapes.Whole form) = form_turn (line_of layout.line) layout.widths piece.place ++ token_of piece form ∷ []
tokens_of layout piece shape = []

-- the line behind a piece that is no token and no end of a line
abbrev pub past_other : Shape → LineFront → Place → Place → LineFront
past_other shapes.Space line p e = past_number line
past_other shapes.Tab line p e = past_tab line p
past_other shapes.Comment line p e = past_comment line
past_other shapes.LargeNumber line p e = fronts.Number e
past_other shape line p e = fronts.Behind e

-- what stands in front of the next piece
abbrev pub layout_past : Layout → Piece → Shape → Layout
layout_past layout piece (shapes.Whole form) = record { line = past_form form piece.end; brackets = brackets_behind form layout.brackets; widths = form_widths (line_of layout.line) layout.widths piece.place }
layout_past layout piece shapes.LineEnd = record layout { line = past_line_end layout.line layout.brackets }
layout_past layout piece shape = record layout { line = past_other shape layout.line piece.place piece.end }

abbrev pub next_layout : Layout → Piece → Layout
next_layout layout piece = layout_past layout piece piece.shape

abbrev pub first_layout : Layout
first_layout = record { line = fronts.Spaces; brackets = 0; widths = 0 ∷ [] }

-- the tokens at the end of the text
abbrev pub closing_of : Layout → Place → List Token
closing_of layout p = last_newline (between_of layout) ++ dedents_of (end_place p) 0 layout.widths ++ token_at (end_place p) forms.End ∷ []

abbrev pub unless_fault : Option LexFault → Result (List Token) LexFault → Result (List Token) LexFault
unless_fault (Some f) tokens = Err f
unless_fault None tokens = tokens

-- the tokens so far and those of the pieces, or the first fault
abbrev pub walked : Place → Layout → List Token → List Piece → Result (List Token) LexFault
walked p layout ts [] = Ok (ts ++ closing_of layout p)
walked p layout ts (piece ∷ pieces) = unless_fault (fault_of layout.line layout.widths piece) (walked p (next_layout layout piece) (ts ++ tokens_of layout piece piece.shape) pieces)

-- a name's bytes are UTF-8
abbrev pub IsTextName : Piece → Type 0
IsTextName piece = (name : List ℕ) → piece.shape ≡ shapes.Whole (forms.Name name) → IsUtf8 name

abbrev pub AreTextNames : List Piece → Type 0
AreTextNames [] = Unit {0}
AreTextNames (piece ∷ pieces) = IsTextName piece × AreTextNames pieces
