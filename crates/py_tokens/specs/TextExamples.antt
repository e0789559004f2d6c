-- A text of two lines, the second deeper and without an end: `a:` and ` b`.
use Rattle.std.specs.Prelude.{ℕ, codes, List, [], ◌∷◌}
use Rattle.py_base.specs.declared.Place.{Place}
use Rattle.py_tokens.specs.declared.piece.Piece.{Piece}
use Rattle.py_tokens.specs.declared.piece.Shape.{Shape}
use Rattle.py_tokens.specs.declared.piece.Shape.TheVariants as shapes
use Rattle.py_tokens.specs.declared.token.Token.{Token}
use Rattle.py_tokens.specs.declared.token.TokenForm.{TokenForm}
use Rattle.py_tokens.specs.declared.token.TokenForm.TheVariants as forms
use Rattle.py_tokens.specs.declared.token.Mark.TheVariants as marks
use Rattle.py_tokens.specs.LineLayout.{Between, Behind}

abbrev pub two_lines : List ℕ
two_lines = codes "a:\n b"

abbrev pub at : ℕ → ℕ → Place
at line col = record { line = line; col = col }

abbrev pub piece_at : ℕ → ℕ → ℕ → ℕ → Shape → Piece
piece_at line col to end shape = record { place = at line col; end = at to end; shape = shape }

abbrev pub token_from : ℕ → ℕ → ℕ → TokenForm → Token
token_from line col end form = record { place = at line col; end = at line end; form = form }

abbrev pub name_a : TokenForm
name_a = forms.Name (codes "a")

abbrev pub name_b : TokenForm
name_b = forms.Name (codes "b")

abbrev pub two_line_pieces : List Piece
two_line_pieces = piece_at 1 1 1 2 (shapes.Whole name_a) ∷ piece_at 1 2 1 3 (shapes.Whole (forms.Mark marks.Colon)) ∷ piece_at 1 3 2 1 shapes.LineEnd ∷ piece_at 2 1 2 2 shapes.Space ∷ piece_at 2 2 2 3 (shapes.Whole name_b) ∷ []

abbrev pub two_line_tokens : List Token
two_line_tokens = token_from 1 1 2 name_a ∷ token_from 1 2 3 (forms.Mark marks.Colon) ∷ token_from 1 3 3 forms.Newline ∷ token_from 2 2 2 forms.Indent ∷ token_from 2 2 3 name_b ∷ []

abbrev pub behind_two_lines : Between
behind_two_lines = record { line = Behind (at 2 3); brackets = 0; widths = 1 ∷ 0 ∷ [] }

abbrev pub two_line_end : List Token
two_line_end = token_from 2 3 3 forms.Newline ∷ token_from 3 1 1 forms.Dedent ∷ token_from 3 1 1 forms.End ∷ []
