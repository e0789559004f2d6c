-- The pieces and tokens of a text of two lines.
use Rattle.std.specs.Prelude.{codes}
use Rattle.std.specs.Str.{chars}
use Rattle.std.proofs.Common.{ℕ, ◌≡◌, inl, arith, refl, sym, ap, ◌∙◌, subst, List, [], ◌∷◌}
use Rattle.unicode_ident.proofs.Computing.{unicode_ident}
use Rattle.py_tokens.specs.declared.token.Mark.TheVariants as marks
use Rattle.py_tokens.specs.declared.piece.Shape.TheVariants as shapes
use Rattle.py_tokens.specs.declared.token.Token.{Token}
use Rattle.py_tokens.specs.declared.token.TokenForm.TheVariants as forms
use Rattle.py_tokens.specs.WordForms.{is_word, keyword_text}
use Rattle.py_tokens.specs.PlacedText.{text_characters, text_start, after}
use Rattle.py_tokens.specs.TextPieces.{IsKeyword, a_name, a_mark, a_space, a_line_end, CutInto}
use Rattle.py_tokens.specs.LineLayout.{Between, Fresh, Behind, before_all, Closes, is_open, closes_one, deeper, not_deeper, Lays, separates, begins_line, goes_on, ends_line, LaidOut, EndsWith}
use Rattle.py_tokens.specs.TextTokens.{PiecesOf}
use Rattle.py_tokens.specs.TextExamples.{two_lines, two_line_pieces, two_line_tokens, behind_two_lines, two_line_end, at, token_from, piece_at, name_a, name_b}
use Rattle.py_tokens.specs.WordLaws.{keyword_of, keyword_found}
use Rattle.py_tokens.proofs.PieceExamples.{longest_by, longest_mark}

-- a text that isn't that of the keyword that it finds is no keyword
no_keyword : (cs : List ℕ) → (keyword_text (keyword_of cs) ≡ cs → ⊥) → IsKeyword cs → ⊥
no_keyword cs n h =
    let (k, e) = h in
    n (ap keyword_text (ap keyword_of e ∙ keyword_found k) ∙ sym e)

no_a : codes "False" ≡ codes "a" → ⊥
no_a e = cc

no_b : codes "False" ≡ codes "b" → ⊥
no_b e = cc

characters : text_characters two_lines ≡ two_lines
unfolding chars
characters = refl

cut : CutInto text_start two_lines two_line_pieces
unfolding unicode_ident lib.Utf8.encode
cut = (
  codes "a",
  codes ":\n b",
  refl,
  a_name (longest_by is_word (codes "a") (codes ":\n b") refl refl) (no_keyword (codes "a") no_a),
  refl,
  refl,
  (
    codes ":",
    codes "\n b",
    refl,
    a_mark marks.Colon (longest_mark marks.Colon (codes "\n b") refl) refl,
    refl,
    refl,
    (
      codes "\n",
      codes " b",
      refl,
      a_line_end refl,
      refl,
      refl,
      (
        codes " ",
        codes "b",
        refl,
        a_space refl,
        refl,
        refl,
        (codes "b", [], refl, a_name (longest_by is_word (codes "b") [] refl refl) (no_keyword (codes "b") no_b), refl, refl, refl),
      ),
    ),
  ),
)

pub pieces_example : PiecesOf two_lines two_line_pieces
unfolding lib.Utf8.encode
pieces_example = ((two_lines, (refl, refl)), subst (λ (cs : List ℕ). CutInto text_start cs two_line_pieces) (sym characters) cut)

-- between the pieces of the text
abbrev pub in_first : ℕ → Between
in_first col = record { line = Behind (at 1 col); brackets = 0; widths = 0 ∷ [] }

abbrev pub fresh : Between
fresh = record { line = Fresh; brackets = 0; widths = 0 ∷ [] }

-- the tokens from the third and the fourth on
abbrev pub fourth : List Token
fourth = token_from 2 2 2 forms.Indent ∷ token_from 2 2 3 name_b ∷ []

abbrev third : List Token
third = token_from 1 3 3 forms.Newline ∷ fourth

pub lays_a : Lays before_all (piece_at 1 1 1 2 (shapes.Whole name_a)) (token_from 1 1 2 name_a ∷ []) (in_first 2)
lays_a = begins_line name_a [] (0 ∷ []) refl refl (not_deeper (is_open [])) refl refl

pub lays_colon : Lays (in_first 2) (piece_at 1 2 1 3 (shapes.Whole (forms.Mark marks.Colon))) (token_from 1 2 3 (forms.Mark marks.Colon) ∷ []) (in_first 3)
lays_colon = goes_on (forms.Mark marks.Colon) (at 1 2) refl refl refl refl

pub lays_end : Lays (in_first 3) (piece_at 1 3 2 1 shapes.LineEnd) (token_from 1 3 3 forms.Newline ∷ []) fresh
lays_end = ends_line (at 1 3) refl refl refl refl refl

pub lays_space : Lays fresh (piece_at 2 1 2 2 shapes.Space) [] fresh
lays_space = separates (inl refl) refl refl

pub lays_b : Lays fresh (piece_at 2 2 2 3 (shapes.Whole name_b)) fourth behind_two_lines
lays_b = begins_line name_b (token_from 2 2 2 forms.Indent ∷ []) (1 ∷ 0 ∷ []) refl refl (deeper 0 [] refl (omega arith) refl refl) refl refl

pub laid_example : LaidOut before_all two_line_pieces two_line_tokens behind_two_lines
laid_example = (
  token_from 1 1 2 name_a ∷ [],
  token_from 1 2 3 (forms.Mark marks.Colon) ∷ third,
  in_first 2,
  refl,
  lays_a,
  (
    token_from 1 2 3 (forms.Mark marks.Colon) ∷ [],
    third,
    in_first 3,
    refl,
    lays_colon,
    (
      token_from 1 3 3 forms.Newline ∷ [],
      fourth,
      fresh,
      refl,
      lays_end,
      (
        [],
        fourth,
        fresh,
        refl,
        lays_space,
        (fourth, [], behind_two_lines, refl, lays_b, (refl, refl)),
      ),
    ),
  ),
)

closed : Closes (at 3 1) 0 (1 ∷ 0 ∷ []) (token_from 3 1 1 forms.Dedent ∷ []) (0 ∷ [])
closed = closes_one 1 (0 ∷ []) (0 ∷ []) [] (omega arith) (is_open [])

pub ends_example : EndsWith behind_two_lines (after text_start (text_characters two_lines)) two_line_end
ends_example = subst (λ (cs : List ℕ). EndsWith behind_two_lines (after text_start cs) two_line_end) (sym characters) (token_from 3 1 1 forms.Dedent ∷ [], 0 ∷ [], closed, refl)
