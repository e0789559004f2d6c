-- The layout of lines: the ends of lines and the stack of widths. (Language Reference, "Logical lines", "Implicit line joining", "Blank lines" and "Indentation".)
use Rattle.std.specs.Prelude.{ℕ, ◌+◌, ◌-◌, ◌<◌, ◌==◌, ◌≡◌, ◌⊎◌, List, [], ◌∷◌, ◌++◌, if◌then◌else◌}
use Rattle.py_base.specs.declared.Place.{Place}
use Rattle.py_tokens.specs.declared.piece.Piece.{Piece}
use Rattle.py_tokens.specs.declared.piece.Shape.TheVariants as shapes
use Rattle.py_tokens.specs.declared.token.Token.{Token}
use Rattle.py_tokens.specs.declared.token.TokenForm.{TokenForm}
use Rattle.py_tokens.specs.declared.token.TokenForm.TheVariants as forms
use Rattle.py_tokens.specs.declared.token.Mark.{Mark}
use Rattle.py_tokens.specs.declared.token.Mark.TheVariants as marks

-- a line that has no token so far, or the end of its last token
pub data Line : Type 0 where
  Fresh : Line
  Behind : Place → Line

-- between two pieces: the line, the number of open brackets, and the open widths, the newest first
pub record Between : Type 0 where
  pub line : Line
  pub brackets : ℕ
  pub widths : List ℕ

-- Before the first line the width 0 is open.
abbrev pub before_all : Between
before_all = record { line = Fresh; brackets = 0; widths = 0 ∷ [] }

abbrev pub brackets_after : Mark → ℕ → ℕ
brackets_after marks.OpenParen n = n + 1
brackets_after marks.OpenBracket n = n + 1
brackets_after marks.CloseParen n = n - 1
brackets_after marks.CloseBracket n = n - 1
brackets_after m n = n

-- A closing mark without an open one leaves the count at 0.
abbrev pub brackets_behind : TokenForm → ℕ → ℕ
brackets_behind (forms.Mark m) n = brackets_after m n
brackets_behind form n = n

abbrev pub token_of : Piece → TokenForm → Token
token_of piece form = record { place = piece.place; end = piece.end; form = form }

-- a token of the layout, which has no characters
abbrev pub token_at : Place → TokenForm → Token
token_at p form = record { place = p; end = p; form = form }

-- Each width that is larger is closed by a DEDENT, down to this width, which is open.
pub data Closes (p : Place) (width : ℕ) : List ℕ → List Token → List ℕ → Type 0 where
  is_open : (ws : List ℕ) → Closes p width (width ∷ ws) [] (width ∷ ws)
  closes_one : (w : ℕ) (ws left : List ℕ) (ts : List Token) → width < w → Closes p width ws ts left → Closes p width (w ∷ ws) (token_at p forms.Dedent ∷ ts) left

-- What stands in front of the first token of a line with this width, and the widths that are open then.
pub data Turns (p : Place) (width : ℕ) (widths : List ℕ) (ts : List Token) (left : List ℕ) : Type 0 where
  deeper : (w : ℕ) (ws : List ℕ) → widths ≡ w ∷ ws → w < width → ts ≡ token_at p forms.Indent ∷ [] → left ≡ width ∷ widths → Turns p width widths ts left
  not_deeper : Closes p width widths ts left → Turns p width widths ts left

-- the width of a line by the place of its first token, which has spaces alone in front
abbrev pub width_at : Place → ℕ
width_at p = p.col - 1

abbrev pub behind : Between → Piece → TokenForm → List ℕ → Between
behind b piece form widths = record { line = Behind piece.end; brackets = brackets_behind form b.brackets; widths = widths }

-- The tokens that a piece brings, and what is then.
pub data Lays (b : Between) (piece : Piece) (ts : List Token) (next : Between) : Type 0 where
  separates : (piece.shape ≡ shapes.Space) ⊎ ((piece.shape ≡ shapes.Tab) ⊎ (piece.shape ≡ shapes.Comment)) → ts ≡ [] → next ≡ b → Lays b piece ts next
  begins_line : (form : TokenForm) (turn : List Token) (widths : List ℕ) → piece.shape ≡ shapes.Whole form → b.line ≡ Fresh → Turns piece.place (width_at piece.place) b.widths turn widths → ts ≡ turn ++ token_of piece form ∷ [] → next ≡ behind b piece form widths → Lays b piece ts next
  goes_on : (form : TokenForm) (e : Place) → piece.shape ≡ shapes.Whole form → b.line ≡ Behind e → ts ≡ token_of piece form ∷ [] → next ≡ behind b piece form b.widths → Lays b piece ts next
  ends_line : (e : Place) → piece.shape ≡ shapes.LineEnd → b.line ≡ Behind e → b.brackets ≡ 0 → ts ≡ token_at e forms.Newline ∷ [] → next ≡ record { line = Fresh; brackets = 0; widths = b.widths } → Lays b piece ts next
  ends_blank_line : piece.shape ≡ shapes.LineEnd → b.line ≡ Fresh → ts ≡ [] → next ≡ b → Lays b piece ts next
  ends_within_brackets : (e : Place) → piece.shape ≡ shapes.LineEnd → b.line ≡ Behind e → 0 < b.brackets → ts ≡ [] → next ≡ b → Lays b piece ts next

-- the tokens that these pieces bring, and what is behind them
abbrev pub LaidOut : Between → List Piece → List Token → Between → Type 0
LaidOut b [] ts last = (ts ≡ []) × (last ≡ b)
LaidOut b (piece ∷ pieces) ts last = (front : List Token) × (more : List Token) × (next : Between) × (ts ≡ front ++ more) × Lays b piece front next × LaidOut next pieces more last

abbrev pub newline_of : Line → List Token
newline_of Fresh = []
newline_of (Behind e) = token_at e forms.Newline ∷ []

-- At the end of the text a NEWLINE comes first, if the last line lacks one and no bracket is open.
abbrev pub last_newline : Between → List Token
last_newline b = if b.brackets == 0 then newline_of b.line else []

-- The text ends on the line behind its last one, in column 1.
abbrev pub end_place : Place → Place
end_place p = if p.col == 1 then p else record { line = p.line + 1; col = 1 }

-- the tokens at the end of a text, whose last character is in front of this place
abbrev pub EndsWith : Between → Place → List Token → Type 0
EndsWith b p ts = (dedents : List Token) × (left : List ℕ) × Closes (end_place p) 0 b.widths dedents left × (ts ≡ last_newline b ++ dedents ++ token_at (end_place p) forms.End ∷ [])
