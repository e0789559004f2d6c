-- A text cut into pieces, each the longest that fits. Each character is in exactly one piece. (Language Reference, "Comments", "Whitespace between tokens" and "Other tokens".)
use Rattle.std.specs.Prelude.{ℕ, pos, ◌<◌, ◌≤◌, ◌^◌, List, [], ◌∷◌, ◌++◌, ◌≡◌, ◌⊎◌, ◌==◌, not, IsTrue, encode_utf8_all}
use Rattle.std.specs.List.{list_all}
use Rattle.py_base.specs.declared.Place.{Place}
use Rattle.py_tokens.specs.declared.piece.Piece.{Piece}
use Rattle.py_tokens.specs.declared.piece.Shape.{Shape}
use Rattle.py_tokens.specs.declared.piece.Shape.TheVariants as shapes
use Rattle.py_tokens.specs.declared.token.TokenForm.TheVariants as forms
use Rattle.py_tokens.specs.declared.token.Keyword.{Keyword}
use Rattle.py_tokens.specs.declared.token.Mark.{Mark}
use Rattle.py_tokens.specs.PlacedText.{after}
use Rattle.py_tokens.specs.WordForms.{is_word, keyword_text, is_number, number_value}
use Rattle.py_tokens.specs.MarkForms.{mark_text}
use Rattle.py_tokens.specs.StringForms.{Quotes, Part, LoneBackslash, OpensWith, SpellsString, IsOpenString, StandsFor, characters_of, quote_text}

-- the front has the form, and together with characters behind it it hasn't
abbrev pub Longest : (List ℕ → Type 0) → List ℕ → List ℕ → Type 0
Longest Has front rest = Has front × ((more behind : List ℕ) → rest ≡ more ++ behind → Has (front ++ more) → more ≡ [])

abbrev pub IsWord : List ℕ → Type 0
IsWord cs = IsTrue (is_word cs)

abbrev pub IsKeyword : List ℕ → Type 0
IsKeyword cs = (k : Keyword) × (cs ≡ keyword_text k)

abbrev pub IsNumber : List ℕ → Type 0
IsNumber cs = IsTrue (is_number cs)

abbrev pub IsMark : List ℕ → Type 0
IsMark cs = (m : Mark) × (cs ≡ mark_text m)

-- A comment goes from `#` on within its line.
abbrev pub IsComment : List ℕ → Type 0
IsComment cs = (text : List ℕ) × (cs ≡ 35 ∷ text) × IsTrue (list_all (λ c. not (c == 10)) text)

-- No token and no comment is in front of these characters, and the first is no space, tab or line end.
pub record BeginsNone (c : ℕ) (cs : List ℕ) : Type 0 where
  pub no_word : (front rest : List ℕ) → c ∷ cs ≡ front ++ rest → ¬ IsWord front
  pub no_number : (front rest : List ℕ) → c ∷ cs ≡ front ++ rest → ¬ IsNumber front
  pub no_mark : (front rest : List ℕ) → c ∷ cs ≡ front ++ rest → ¬ IsMark front
  pub no_comment : (front rest : List ℕ) → c ∷ cs ≡ front ++ rest → ¬ IsComment front
  pub no_string : (quotes : Quotes) → ¬ OpensWith (c ∷ cs) quotes
  pub no_separator : ¬ ((c ≡ 32) ⊎ ((c ≡ 9) ⊎ (c ≡ 10)))

-- At the place stands a piece of the shape, with the rest behind it. A name and a string are given by the bytes of their characters in UTF-8, and a backslash that begins no escape by its place.
pub data IsPiece (p : Place) (front rest : List ℕ) : Shape → Type 0 where
  a_name : Longest IsWord front rest → ¬ IsKeyword front → IsPiece p front rest (shapes.Whole (forms.Name (encode_utf8_all front)))
  a_keyword : (k : Keyword) → Longest IsWord front rest → front ≡ keyword_text k → IsPiece p front rest (shapes.Whole (forms.Key k))
  a_number : Longest IsNumber front rest → number_value front < 2 ^ 127 → IsPiece p front rest (shapes.Whole (forms.Number (pos (number_value front))))
  a_large_number : Longest IsNumber front rest → 2 ^ 127 ≤ number_value front → IsPiece p front rest shapes.LargeNumber
  a_mark : (m : Mark) → Longest IsMark front rest → front ≡ mark_text m → IsPiece p front rest (shapes.Whole (forms.Mark m))
  a_string : (quotes : Quotes) (parts : List Part) (value : List ℕ) → SpellsString (front ++ rest) quotes parts rest → StandsFor parts value → IsPiece p front rest (shapes.Whole (forms.Str (encode_utf8_all value)))
  a_space : front ≡ 32 ∷ [] → IsPiece p front rest shapes.Space
  a_tab : front ≡ 9 ∷ [] → IsPiece p front rest shapes.Tab
  a_comment : Longest IsComment front rest → IsPiece p front rest shapes.Comment
  a_line_end : front ≡ 10 ∷ [] → IsPiece p front rest shapes.LineEnd
  a_bad_escape : (quotes : Quotes) (parts more : List Part) (value : List ℕ) → SpellsString (front ++ rest) quotes (parts ++ LoneBackslash ∷ more) rest → StandsFor parts value → IsPiece p front rest (shapes.BadEscape (after p (quote_text quotes ++ characters_of parts)))
  an_open_string : IsOpenString front → rest ≡ [] → IsPiece p front rest shapes.Unclosed
  a_stray : (c : ℕ) → front ≡ c ∷ [] → BeginsNone c rest → IsPiece p front rest shapes.Stray

-- the characters that begin at a place are these pieces, each from its place up to the place just after it
abbrev pub CutInto : Place → List ℕ → List Piece → Type 0
CutInto p cs [] = cs ≡ []
CutInto p cs (piece ∷ pieces) = (front : List ℕ) × (rest : List ℕ) × (cs ≡ front ++ rest) × IsPiece p front rest piece.shape × (piece.place ≡ p) × (piece.end ≡ after p front) × CutInto piece.end rest pieces
