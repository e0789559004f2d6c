-- The tokens of a text, and its faults. The limits on names and numbers and the order of faults are this project's own.
use Rattle.std.specs.Prelude.{ℕ, ◌+◌, ◌<◌, ◌≤◌, ◌≡◌, ◌⊎◌, pos, List, [], ◌∷◌, ◌++◌, length, Contains, All}
use Rattle.std.specs.Str.{IsUtf8, chars}
use Rattle.unicode_normalization.specs.Forms.{IsInForm}
use Rattle.unicode_normalization.specs.declared.Form.TheVariants as normal
use Rattle.py_base.specs.declared.Place.{Place}
use Rattle.py_tokens.specs.declared.piece.Piece.{Piece}
use Rattle.py_tokens.specs.declared.piece.Shape.{Shape}
use Rattle.py_tokens.specs.declared.piece.Shape.TheVariants as shapes
use Rattle.py_tokens.specs.declared.token.Token.{Token}
use Rattle.py_tokens.specs.declared.token.TokenForm.TheVariants as forms
use Rattle.py_tokens.specs.declared.token.Keyword.{Keyword}
use Rattle.py_tokens.specs.declared.fault.LexFault.{LexFault}
use Rattle.py_tokens.specs.declared.fault.LexFault.TheVariants as faults
use Rattle.py_tokens.specs.PlacedText.{text_characters, text_start, after, IsBadByteAt}
use Rattle.py_tokens.specs.TextPieces.{CutInto}
use Rattle.py_tokens.specs.LineLayout.{Between, before_all, Fresh, width_at, LaidOut, EndsWith}

-- the bytes are UTF-8, and their characters are these pieces
abbrev pub PiecesOf : List ℕ → List Piece → Type 0
PiecesOf bytes pieces = IsUtf8 bytes × CutInto text_start (text_characters bytes) pieces

-- A number, of any size.
pub data IsNumeral : Shape → Type 0 where
  fits : (n : ℕ) → IsNumeral (shapes.Whole (forms.Number (pos n)))
  is_large : IsNumeral shapes.LargeNumber

-- A piece with a name character or a digit in front.
pub data BeginsAsName : Shape → Type 0 where
  as_name : (name : List ℕ) → BeginsAsName (shapes.Whole (forms.Name name))
  as_keyword : (k : Keyword) → BeginsAsName (shapes.Whole (forms.Key k))
  as_number : (shape : Shape) → IsNumeral shape → BeginsAsName shape

-- A token begins here, even a number that is too large or a string that is faulty.
abbrev pub BeginsToken : Shape → Type 0
BeginsToken (shapes.Whole form) = Unit {0}
BeginsToken shapes.LargeNumber = Unit {0}
BeginsToken (shapes.BadEscape p) = Unit {0}
BeginsToken shapes.Unclosed = Unit {0}
BeginsToken shape = ⊥

abbrev pub IsSpace : Piece → Type 0
IsSpace piece = piece.shape ≡ shapes.Space

abbrev pub IsBlank : Piece → Type 0
IsBlank piece = (piece.shape ≡ shapes.Space) ⊎ (piece.shape ≡ shapes.Tab)

-- outside brackets, no token of the line stands in front of what follows these pieces; and what is then
abbrev pub FreshAfter : List Piece → Between → Type 0
FreshAfter pieces b = (ts : List Token) × LaidOut before_all pieces ts b × (b.line ≡ Fresh)

-- The width is smaller than the newest open one, and isn't open.
abbrev pub IsNewBelow : ℕ → List ℕ → Type 0
IsNewBelow width [] = ⊥
IsNewBelow width (w ∷ ws) = (width < w) × ¬ Contains ws width

-- The bytes have the fault.
pub data HasFault (bytes : List ℕ) : LexFault → Type 0 where
  bad_utf8 : (p : Place) → IsBadByteAt bytes p → HasFault bytes (faults.BadUtf8 p)
  begins_no_token : (before rest : List Piece) (piece : Piece) → PiecesOf bytes (before ++ piece ∷ rest) → piece.shape ≡ shapes.Stray → HasFault bytes (faults.BadCharacter piece.place)
  after_number : (before rest : List Piece) (number piece : Piece) → PiecesOf bytes (before ++ number ∷ piece ∷ rest) → IsNumeral number.shape → BeginsAsName piece.shape → HasFault bytes (faults.BadCharacter piece.place)
  bad_escape : (before rest : List Piece) (piece : Piece) (p : Place) → PiecesOf bytes (before ++ piece ∷ rest) → piece.shape ≡ shapes.BadEscape p → HasFault bytes (faults.BadCharacter p)
  tab_in_indent : (before spaces blanks rest : List Piece) (tab first : Piece) (b : Between) → PiecesOf bytes (before ++ spaces ++ tab ∷ blanks ++ first ∷ rest) → FreshAfter before b → All IsSpace spaces → length spaces + 1 ≡ tab.place.col → tab.shape ≡ shapes.Tab → All IsBlank blanks → BeginsToken first.shape → HasFault bytes (faults.TabInIndent tab.place)
  bad_dedent : (before rest : List Piece) (first : Piece) (b : Between) → PiecesOf bytes (before ++ first ∷ rest) → FreshAfter before b → BeginsToken first.shape → IsNewBelow (width_at first.place) b.widths → HasFault bytes (faults.BadDedent first.place)
  open_string : (before rest : List Piece) (piece : Piece) → PiecesOf bytes (before ++ piece ∷ rest) → piece.shape ≡ shapes.Unclosed → HasFault bytes (faults.OpenString piece.place)
  literal_too_large : (before rest : List Piece) (piece : Piece) → PiecesOf bytes (before ++ piece ∷ rest) → piece.shape ≡ shapes.LargeNumber → HasFault bytes (faults.LiteralTooLarge piece.place)
  name_not_nfkc : (before rest : List Piece) (piece : Piece) (name : List ℕ) → PiecesOf bytes (before ++ piece ∷ rest) → piece.shape ≡ shapes.Whole (forms.Name name) → ¬ IsInForm normal.Nfkc (chars name) → HasFault bytes (faults.NameNotNfkc piece.place)
  name_too_long : (before rest : List Piece) (piece : Piece) (name : List ℕ) → PiecesOf bytes (before ++ piece ∷ rest) → piece.shape ≡ shapes.Whole (forms.Name name) → 255 < length name → HasFault bytes (faults.NameTooLong piece.place)

-- the place of a fault
abbrev pub place_of : LexFault → Place
place_of (faults.BadUtf8 p) = p
place_of (faults.BadCharacter p) = p
place_of (faults.TabInIndent p) = p
place_of (faults.BadDedent p) = p
place_of (faults.OpenString p) = p
place_of (faults.LiteralTooLarge p) = p
place_of (faults.NameNotNfkc p) = p
place_of (faults.NameTooLong p) = p
place_of faults.OutOfMemory = text_start

-- the order of the faults at one place
abbrev pub rank_of : LexFault → ℕ
rank_of (faults.BadUtf8 p) = 1
rank_of (faults.BadCharacter p) = 2
rank_of (faults.TabInIndent p) = 3
rank_of (faults.BadDedent p) = 4
rank_of (faults.OpenString p) = 5
rank_of (faults.LiteralTooLarge p) = 6
rank_of (faults.NameTooLong p) = 7
rank_of (faults.NameNotNfkc p) = 8
rank_of faults.OutOfMemory = 9

-- Faults go by line, then by column, then by their rank.
pub data IsNotAfter (f g : LexFault) : Type 0 where
  by_line : (place_of f).line < (place_of g).line → IsNotAfter f g
  by_col : (place_of f).line ≡ (place_of g).line → (place_of f).col < (place_of g).col → IsNotAfter f g
  by_rank : place_of f ≡ place_of g → rank_of f ≤ rank_of g → IsNotAfter f g

-- Bytes that aren't UTF-8 have no other fault, so that one comes first.
abbrev pub IsFirstFault : List ℕ → LexFault → Type 0
IsFirstFault bytes f = HasFault bytes f × ((g : LexFault) → HasFault bytes g → IsNotAfter f g)

-- The bytes have no fault, and these tokens.
pub record Tokens (bytes : List ℕ) (tokens : List Token) : Type 0 where
  pub pieces : List Piece
  pub laid : List Token
  pub last : Between
  pub closing : List Token
  pub no_fault : (f : LexFault) → ¬ HasFault bytes f
  pub cut : PiecesOf bytes pieces
  pub layout : LaidOut before_all pieces laid last
  pub ends : EndsWith last (after text_start (text_characters bytes)) closing
  pub all : tokens ≡ laid ++ closing
