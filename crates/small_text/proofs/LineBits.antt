-- The lines of small texts cut into bits: their characters, pieces and tokens.
use Rattle.std.specs.Prelude.{ℕ, ◌+◌, ◌*◌, ◌-◌, ◌<◌, pos, ⊤, Bool, true, false, List, [], ◌∷◌, ◌++◌, length, replicate, fold, codes}
use Rattle.py_base.specs.declared.Place.{Place}
use Rattle.py_tokens.specs.declared.piece.Piece.{Piece}
use Rattle.py_tokens.specs.declared.piece.Shape.{Shape}
use Rattle.py_tokens.specs.declared.piece.Shape.TheVariants as shapes
use Rattle.py_tokens.specs.declared.token.Token.{Token}
use Rattle.py_tokens.specs.declared.token.TokenForm.{TokenForm}
use Rattle.py_tokens.specs.declared.token.TokenForm.TheVariants as forms
use Rattle.py_tokens.specs.declared.token.Keyword.TheVariants as keys
use Rattle.py_tokens.specs.declared.token.Mark.{Mark}
use Rattle.py_tokens.specs.declared.token.Mark.TheVariants as marks
use Rattle.py_tokens.specs.LineLayout.{token_at}

-- what lines say
pub data Operand : Type 0 where
  digits : List ℕ → Operand
  word : List ℕ → Operand

pub data Sum : Type 0 where
  alone : Operand → Sum
  plus : Operand → Operand → Sum
  minus : Operand → Operand → Sum

pub data Said : Type 0 where
  passes : Said
  stores : List ℕ → Sum → Said
  checks : Sum → Sum → Said
  prints : Sum → Said

-- a line: spaces, spaces and a comment, the head of `main`, or a statement
pub data Row : Type 0 where
  blank : ℕ → Row
  remark : ℕ → List ℕ → Row
  head : Row
  says : Said → Row

-- a piece without its place
pub record Bit : Type 0 where
  pub shape : Shape
  pub text : List ℕ

abbrev pub bit : Shape → List ℕ → Bit
bit s t = record { shape = s; text = t }

abbrev pub space : Bit
space = bit shapes.Space (32 ∷ [])

abbrev pub mark : Mark → List ℕ → Bit
mark m t = bit (shapes.Whole (forms.Mark m)) t

abbrev pub digits_value : List ℕ → ℕ
digits_value bytes = fold (λ n b. n * 10 + (b - 48)) 0 bytes

abbrev pub operand_form : Operand → TokenForm
operand_form (digits ds) = forms.Number (pos (digits_value ds))
operand_form (word w) = forms.Name w

abbrev pub operand_text : Operand → List ℕ
operand_text (digits ds) = ds
operand_text (word w) = w

abbrev pub operand_bit : Operand → Bit
operand_bit x = bit (shapes.Whole (operand_form x)) (operand_text x)

abbrev pub sum_bits : Sum → List Bit
sum_bits (alone x) = operand_bit x ∷ []
sum_bits (plus x y) = operand_bit x ∷ space ∷ mark marks.Plus (codes "+") ∷ space ∷ operand_bit y ∷ []
sum_bits (minus x y) = operand_bit x ∷ space ∷ mark marks.Minus (codes "-") ∷ space ∷ operand_bit y ∷ []

abbrev pub said_bits : Said → List Bit
said_bits passes = bit (shapes.Whole (forms.Key keys.Pass)) (codes "pass") ∷ []
said_bits (stores n e) = bit (shapes.Whole (forms.Name n)) n ∷ space ∷ mark marks.Assign (codes "=") ∷ space ∷ sum_bits e
said_bits (checks a b) = bit (shapes.Whole (forms.Key keys.Assert)) (codes "assert") ∷ space ∷ (sum_bits a ++ space ∷ mark marks.Equal (codes "==") ∷ space ∷ sum_bits b)
said_bits (prints e) = bit (shapes.Whole (forms.Name (codes "print"))) (codes "print") ∷ mark marks.OpenParen (codes "(") ∷ (sum_bits e ++ mark marks.CloseParen (codes ")") ∷ [])

-- `def main() -> None:`
abbrev pub head_bits : List Bit
head_bits =
    bit (shapes.Whole (forms.Key keys.Def)) (codes "def") ∷ space ∷ bit (shapes.Whole (forms.Name (codes "main"))) (codes "main")
    ∷ mark marks.OpenParen (codes "(") ∷ mark marks.CloseParen (codes ")") ∷ space ∷ mark marks.Arrow (codes "->") ∷ space
    ∷ bit (shapes.Whole (forms.Key keys.None)) (codes "None") ∷ mark marks.Colon (codes ":") ∷ []

abbrev pub row_bits : Row → List Bit
row_bits (blank n) = replicate n space
row_bits (remark n text) = replicate n space ++ bit shapes.Comment (35 ∷ text) ∷ []
row_bits head = head_bits
row_bits (says s) = space ∷ space ∷ space ∷ space ∷ said_bits s

abbrev pub bits_text : List Bit → List ℕ
bits_text [] = []
bits_text (b ∷ bs) = b.text ++ bits_text bs

abbrev pub row_text : Row → List ℕ
row_text r = bits_text (row_bits r)

-- the text of lines; the last one has its end or lacks it
abbrev pub rows_text : List Row → Bool → List ℕ
rows_text [] ended = []
rows_text (r ∷ []) false = row_text r
rows_text (r ∷ rs) ended = row_text r ++ 10 ∷ rows_text rs ended

-- a last line without its end has a character
abbrev pub IsClosed : List Row → Bool → Type 0
IsClosed [] ended = ⊤
IsClosed (r ∷ []) true = ⊤
IsClosed (r ∷ []) false = 0 < length (row_text r)
IsClosed (r ∷ s ∷ rs) ended = IsClosed (s ∷ rs) ended

abbrev pub at : ℕ → ℕ → Place
at line col = record { line = line; col = col }

abbrev pub bits_pieces : ℕ → ℕ → List Bit → List Piece
bits_pieces line col [] = []
bits_pieces line col (b ∷ bs) = record { place = at line col; «end» = at line (col + length b.text); shape = b.shape } ∷ bits_pieces line (col + length b.text) bs

abbrev pub end_piece : ℕ → ℕ → Piece
end_piece line col = record { place = at line col; «end» = at (line + 1) 1; shape = shapes.LineEnd }

abbrev pub row_pieces : ℕ → Row → List Piece
row_pieces line r = bits_pieces line 1 (row_bits r)

abbrev pub rows_pieces : ℕ → List Row → Bool → List Piece
rows_pieces line [] ended = []
rows_pieces line (r ∷ []) false = row_pieces line r
rows_pieces line (r ∷ rs) ended = row_pieces line r ++ end_piece line (1 + length (row_text r)) ∷ rows_pieces (line + 1) rs ended

abbrev pub shape_tokens : Place → Place → Shape → List Token
shape_tokens p q (shapes.Whole f) = record { place = p; «end» = q; form = f } ∷ []
shape_tokens p q s = []

abbrev pub bits_tokens : ℕ → ℕ → List Bit → List Token
bits_tokens line col [] = []
bits_tokens line col (b ∷ bs) = shape_tokens (at line col) (at line (col + length b.text)) b.shape ++ bits_tokens line (col + length b.text) bs

-- the tokens of a line that has some, with its NEWLINE
abbrev pub line_tokens : ℕ → ℕ → List Bit → List Token
line_tokens line col bs = bits_tokens line col bs ++ token_at (at line (col + length (bits_text bs))) forms.Newline ∷ []

-- the tokens of lines behind the head; the first statement has an INDENT in front
abbrev pub body_tokens : ℕ → Bool → List Row → List Token
body_tokens line indented [] = []
body_tokens line false (says s ∷ rs) = token_at (at line 5) forms.Indent ∷ (line_tokens line 5 (said_bits s) ++ body_tokens (line + 1) true rs)
body_tokens line true (says s ∷ rs) = line_tokens line 5 (said_bits s) ++ body_tokens (line + 1) true rs
body_tokens line indented (r ∷ rs) = body_tokens (line + 1) indented rs

-- the tokens of a small text whose head stands on this line
abbrev pub small_tokens : ℕ → List Row → List Token
small_tokens line rows = line_tokens line 1 head_bits ++ body_tokens (line + 1) false rows
    ++ token_at (at (line + 1 + length rows) 1) forms.Dedent ∷ token_at (at (line + 1 + length rows) 1) forms.End ∷ []
