-- The tokens of a small text.
use Rattle.std.proofs.Common.{ℕ, ◌≡◌, ◌+◌, arith, Bool, false, refl, sym, ap, ◌∙◌, subst, List, [], ◌∷◌, ◌++◌, append_assoc, length, length-append, All}
use Rattle.py_base.specs.declared.Place.{Place}
use Rattle.py_tokens.specs.declared.token.Token.{Token}
use Rattle.py_tokens.specs.declared.token.TokenForm.TheVariants as forms
use Rattle.py_tokens.specs.PlacedText.{text_characters, text_start, after}
use Rattle.py_tokens.specs.LineLayout.{Line, token_at, is_open, closes_one, newline_of, end_place, EndsWith}
use Rattle.py_tokens.specs.TextTokens.{PiecesOf, Tokens}
use Rattle.small_text.proofs.LineBits.{Row, head, rows_text, IsClosed, at, rows_pieces, head_bits, line_tokens, body_tokens, small_tokens}
use Rattle.small_text.proofs.SmallRows.{IsPassed, IsBody}
use Rattle.small_text.proofs.CutRows.{all_are_rows}
use Rattle.small_text.proofs.BitLayout.{between}
use Rattle.small_text.proofs.RowsLayout.{Speaks, small_laid}
use Rattle.small_text.proofs.TextEnd.{text_end}
use Rattle.small_text.proofs.CleanPieces.{rows_clean}
use Rattle.small_text.proofs.Faultless.{IsSound, faultless}

-- a statement is among the lines
abbrev pub SaysSome : List Row → Type 0
SaysSome rows = Speaks false rows

-- the tokens at the end, behind a line that may lack its end
abbrev closing : Line → Place → List Token
closing l e = (newline_of l ++ token_at e forms.Dedent ∷ []) ++ token_at e forms.End ∷ []

ends : (l : Line) (p e : Place) → end_place p ≡ e → EndsWith (between l 0 (4 ∷ 0 ∷ [])) p (closing l e)
ends l p e h = subst (λ (q : Place). EndsWith (between l 0 (4 ∷ 0 ∷ [])) p (closing l q)) h (token_at (end_place p) forms.Dedent ∷ [], 0 ∷ [], closes_one 4 (0 ∷ []) (0 ∷ []) [] (omega arith) (is_open []), refl)

all_tokens : (laid us : List Token) (l : Line) (e : Place) → laid ++ newline_of l ≡ us → us ++ token_at e forms.Dedent ∷ token_at e forms.End ∷ [] ≡ laid ++ closing l e
all_tokens laid us l e h =
    let two : List Token = token_at e forms.Dedent ∷ token_at e forms.End ∷ [] in
    ap (λ (x : List Token). x ++ two) (sym h) ∙ append_assoc laid (newline_of l) two ∙ ap (λ (x : List Token). laid ++ x) (sym (append_assoc (newline_of l) (token_at e forms.Dedent ∷ []) (token_at e forms.End ∷ [])))

end_line : (skips rows : List Row) → at (1 + length (skips ++ head ∷ rows)) 1 ≡ at (1 + length skips + 1 + length rows) 1
end_line skips rows = let k : 1 + length (skips ++ head ∷ rows) ≡ 1 + length skips + 1 + length rows = omega (arith, length-append skips (head ∷ rows)) in ap (λ (n : ℕ). at n 1) k

-- The text of these lines has no fault, and its tokens are those of a small text.
pub tokens : (skips rows : List Row) (ended : Bool) → All IsPassed skips → All IsBody rows → SaysSome rows → IsClosed (skips ++ head ∷ rows) ended → PiecesOf (rows_text (skips ++ head ∷ rows) ended) (rows_pieces 1 (skips ++ head ∷ rows) ended)
    → Tokens (rows_text (skips ++ head ∷ rows) ended) (small_tokens (1 + length skips) rows)
tokens skips rows ended passed bodies some closed cut =
    let all = skips ++ head ∷ rows in
    let text = rows_text all ended in
    let pieces = rows_pieces 1 all ended in
    let line = 1 + length skips in
    let e = at (line + 1 + length rows) 1 in
    let out = small_laid skips rows ended passed bodies some in
    let last = between out.last 0 (4 ∷ 0 ∷ []) in
    let sound : IsSound text pieces out.laid last = record { cut = cut; clean = rows_clean all ended 1 (all_are_rows skips rows passed bodies); layout = out.layout } in
    let place : end_place (after text_start (text_characters text)) ≡ e = text_end all ended (text_characters text) closed cut.1 ∙ end_line skips rows in
    record {
      pieces = pieces;
      laid = out.laid;
      last = last;
      closing = closing out.last e;
      no_fault = faultless text pieces out.laid last sound;
      cut = cut;
      layout = out.layout;
      ends = ends out.last (after text_start (text_characters text)) e place;
      all = all_tokens out.laid (line_tokens line 1 head_bits ++ body_tokens (line + 1) false rows) out.last e out.whole;
    }
