-- Words of the contracts of what reads a piece.
use Rattle.std.specs.Prelude.{ℕ, pos, ◌≡◌, ◌≤◌, ◌<◌, ◌^◌, ◌⊎◌, List, length, take, drop, encode_utf8_all}
use Rattle.py_base.specs.declared.Place.{Place}
use Rattle.py_tokens.specs.declared.Keyword.{Keyword}
use Rattle.py_tokens.specs.declared.TokenForm.TheVariants as forms
use Rattle.py_tokens.specs.declared.Shape.{Shape}
use Rattle.py_tokens.specs.declared.Shape.TheVariants as shapes
use Rattle.py_tokens.specs.WordForms.{keyword_text, number_value}
use Rattle.py_tokens.specs.TextPieces.{IsKeyword, IsPiece}

-- the first n characters are a piece of the shape
abbrev pub StandsAt : Place → List ℕ → ℕ → Shape → Type 0
StandsAt p cs n shape = (0 < n) × (n ≤ length cs) × IsPiece p (take n cs) (drop n cs) shape

-- a word as a keyword or a name
abbrev pub IsWordShape : List ℕ → Shape → Type 0
IsWordShape word shape = ((keyword : Keyword) × (word ≡ keyword_text keyword) × (shape ≡ shapes.Whole (forms.Key keyword))) ⊎ ((¬ IsKeyword word) × (shape ≡ shapes.Whole (forms.Name (encode_utf8_all word))))

-- a number by its size
abbrev pub IsNumberShape : List ℕ → Shape → Type 0
IsNumberShape number shape = ((number_value number < 2 ^ 127) × (shape ≡ shapes.Whole (forms.Number (pos (number_value number))))) ⊎ ((2 ^ 127 ≤ number_value number) × (shape ≡ shapes.LargeNumber))

-- a character that is a piece by itself
abbrev pub StandsAlone : ℕ → Shape → Type 0
StandsAlone c shapes.Space = c ≡ 32
StandsAlone c shapes.Tab = c ≡ 9
StandsAlone c shapes.LineEnd = c ≡ 10
StandsAlone c shapes.Stray = ¬ ((c ≡ 32) ⊎ ((c ≡ 9) ⊎ (c ≡ 10)))
StandsAlone c shape = ⊥
