-- Where spaces, tabs, comments and ends of lines end.
use Rattle.std.proofs.Common.{ℕ, ℤ, ◌≡◌, ◌≤◌, ◌+◌, ◌==◌, ◌&&◌, ◌⊎◌, inl, inr, not, Bool, true, false, List, [], ◌∷◌, ◌++◌, length, refl, ap, ◌∙◌, arith}
use Rattle.std.specs.Prelude.{All}
use Rattle.std.specs.List.{list_all}
use Rattle.std.proofs.lemmas.List.Elements.{All-head, All-tail}
use Rattle.py_base.specs.declared.Place.{Place}
use Rattle.py_tokens.specs.declared.TokenForm.TheVariants as forms
use Rattle.py_tokens.specs.declared.Piece.{Piece}
use Rattle.py_tokens.specs.declared.Shape.{Shape}
use Rattle.py_tokens.specs.declared.Shape.TheVariants as shapes
use Rattle.py_tokens.specs.PlacedText.{after, after_one}
use Rattle.py_tokens.specs.TextPieces.{IsPiece, a_name, a_keyword, a_number, a_large_number, a_mark, a_string, a_space, a_tab, a_comment, a_line_end, a_bad_escape, an_open_string, a_stray, IsComment, CutInto}
use Rattle.py_tokens.specs.TextTokens.{IsSpace, IsNumeral, fits, is_large}

pub space_front : (p : Place) (front rest : List ℕ) (shape : Shape) → IsPiece p front rest shape → shape ≡ shapes.Space → front ≡ 32 ∷ []
space_front p front rest _ (a_name l k) e = absurd cc
space_front p front rest _ (a_keyword k l f) e = absurd cc
space_front p front rest _ (a_number l v) e = absurd cc
space_front p front rest _ (a_large_number l v) e = absurd cc
space_front p front rest _ (a_mark m l f) e = absurd cc
space_front p front rest _ (a_string q parts value s v) e = absurd cc
space_front p front rest _ (a_space f) e = f
space_front p front rest _ (a_tab f) e = absurd cc
space_front p front rest _ (a_comment l) e = absurd cc
space_front p front rest _ (a_line_end f) e = absurd cc
space_front p front rest _ (a_bad_escape q parts more value s v) e = absurd cc
space_front p front rest _ (an_open_string o r) e = absurd cc
space_front p front rest _ (a_stray c f n) e = absurd cc

pub tab_front : (p : Place) (front rest : List ℕ) (shape : Shape) → IsPiece p front rest shape → shape ≡ shapes.Tab → front ≡ 9 ∷ []
tab_front p front rest _ (a_name l k) e = absurd cc
tab_front p front rest _ (a_keyword k l f) e = absurd cc
tab_front p front rest _ (a_number l v) e = absurd cc
tab_front p front rest _ (a_large_number l v) e = absurd cc
tab_front p front rest _ (a_mark m l f) e = absurd cc
tab_front p front rest _ (a_string q parts value s v) e = absurd cc
tab_front p front rest _ (a_space f) e = absurd cc
tab_front p front rest _ (a_tab f) e = f
tab_front p front rest _ (a_comment l) e = absurd cc
tab_front p front rest _ (a_line_end f) e = absurd cc
tab_front p front rest _ (a_bad_escape q parts more value s v) e = absurd cc
tab_front p front rest _ (an_open_string o r) e = absurd cc
tab_front p front rest _ (a_stray c f n) e = absurd cc

pub end_front : (p : Place) (front rest : List ℕ) (shape : Shape) → IsPiece p front rest shape → shape ≡ shapes.LineEnd → front ≡ 10 ∷ []
end_front p front rest _ (a_name l k) e = absurd cc
end_front p front rest _ (a_keyword k l f) e = absurd cc
end_front p front rest _ (a_number l v) e = absurd cc
end_front p front rest _ (a_large_number l v) e = absurd cc
end_front p front rest _ (a_mark m l f) e = absurd cc
end_front p front rest _ (a_string q parts value s v) e = absurd cc
end_front p front rest _ (a_space f) e = absurd cc
end_front p front rest _ (a_tab f) e = absurd cc
end_front p front rest _ (a_comment l) e = absurd cc
end_front p front rest _ (a_line_end f) e = f
end_front p front rest _ (a_bad_escape q parts more value s v) e = absurd cc
end_front p front rest _ (an_open_string o r) e = absurd cc
end_front p front rest _ (a_stray c f n) e = absurd cc

comment_front : (p : Place) (front rest : List ℕ) (shape : Shape) → IsPiece p front rest shape → shape ≡ shapes.Comment → IsComment front
comment_front p front rest _ (a_name l k) e = absurd cc
comment_front p front rest _ (a_keyword k l f) e = absurd cc
comment_front p front rest _ (a_number l v) e = absurd cc
comment_front p front rest _ (a_large_number l v) e = absurd cc
comment_front p front rest _ (a_mark m l f) e = absurd cc
comment_front p front rest _ (a_string q parts value s v) e = absurd cc
comment_front p front rest _ (a_space f) e = absurd cc
comment_front p front rest _ (a_tab f) e = absurd cc
comment_front p front rest _ (a_comment l) e = l.0
comment_front p front rest _ (a_line_end f) e = absurd cc
comment_front p front rest _ (a_bad_escape q parts more value s v) e = absurd cc
comment_front p front rest _ (an_open_string o r) e = absurd cc
comment_front p front rest _ (a_stray c f n) e = absurd cc

-- A number that is a token isn't below 0.
pub numeral_of : (p : Place) (front rest : List ℕ) (shape : Shape) (z : ℤ) → IsPiece p front rest shape → shape ≡ shapes.Whole (forms.Number z) → IsNumeral shape
numeral_of p front rest _ z (a_name l k) e = absurd cc
numeral_of p front rest _ z (a_keyword k l f) e = absurd cc
numeral_of p front rest _ z (a_number l v) e = fits _
numeral_of p front rest _ z (a_large_number l v) e = is_large
numeral_of p front rest _ z (a_mark m l f) e = absurd cc
numeral_of p front rest _ z (a_string q parts value s v) e = absurd cc
numeral_of p front rest _ z (a_space f) e = absurd cc
numeral_of p front rest _ z (a_tab f) e = absurd cc
numeral_of p front rest _ z (a_comment l) e = absurd cc
numeral_of p front rest _ z (a_line_end f) e = absurd cc
numeral_of p front rest _ z (a_bad_escape q parts more value s v) e = absurd cc
numeral_of p front rest _ z (an_open_string o r) e = absurd cc
numeral_of p front rest _ z (a_stray c f n) e = absurd cc

col_step : (b : Bool) (p : Place) (c : ℕ) → (c == 10) ≡ b → 1 ≤ p.col → 1 ≤ (after_one p c).col
col_step true p c e h = rw e (omega arith)
col_step false p c e h = rw e (omega arith)

-- A column is counted from 1.
pub from_one : (cs : List ℕ) (p : Place) → 1 ≤ p.col → 1 ≤ (after p cs).col
from_one [] p h = h
from_one (c ∷ cs) p h = from_one cs (after_one p c) (col_step (c == 10) p c refl h)

one_more : (p : Place) (c : ℕ) → (c == 10) ≡ false → after_one p c ≡ record { line = p.line; col = p.col + 1 }
one_more p c e = rw e refl

along : (b : Bool) (p : Place) (c : ℕ) (cs : List ℕ) → (c == 10) ≡ b → (not b && list_all (λ d. not (d == 10)) cs) ≡ true → ((q : Place) → list_all (λ d. not (d == 10)) cs ≡ true → q.col ≤ (after q cs).col) → p.col ≤ (after p (c ∷ cs)).col
along true p c cs e h on = absurd cc
along false p c cs e h on =
    let q : Place = record { line = p.line; col = p.col + 1 } in
    let k : q.col ≤ (after q cs).col = on q h in
    let l : (after (after_one p c) cs).col ≡ (after q cs).col = ap (λ r. (after r cs).col) (one_more p c e) in
    omega (arith, k, l)

-- within a line the column grows
within_line : (cs : List ℕ) (p : Place) → list_all (λ d. not (d == 10)) cs ≡ true → p.col ≤ (after p cs).col
within_line [] p h = omega arith
within_line (c ∷ cs) p h = along (c == 10) p c cs refl h (λ q k. within_line cs q k)

comment_end : (p : Place) (front : List ℕ) → 1 ≤ p.col → IsComment front → 2 ≤ (after p front).col
comment_end p front h (text, e, t) =
    let q : Place = record { line = p.line; col = p.col + 1 } in
    let k : q.col ≤ (after q text).col = within_line text q t in
    rw e (omega (arith, k))

-- A space, a tab or a comment doesn't end in column 1.
pub not_at_start : (p : Place) (front rest : List ℕ) (shape : Shape) → 1 ≤ p.col → IsPiece p front rest shape → (shape ≡ shapes.Space) ⊎ ((shape ≡ shapes.Tab) ⊎ (shape ≡ shapes.Comment)) → 2 ≤ (after p front).col
not_at_start p front rest shape h piece (inl e) = rw (space_front p front rest shape piece e) (omega arith)
not_at_start p front rest shape h piece (inr (inl e)) = rw (tab_front p front rest shape piece e) (omega arith)
not_at_start p front rest shape h piece (inr (inr e)) = comment_end p front h (comment_front p front rest shape piece e)

-- the column behind spaces
pub past_spaces : (spaces rest : List Piece) (tab : Piece) (p : Place) (cs : List ℕ) → CutInto p cs (spaces ++ tab ∷ rest) → All IsSpace spaces → tab.place.col ≡ p.col + length spaces
past_spaces [] rest tab p cs (front, behind, e, piece, at, ends, on) all = let k : tab.place.col ≡ p.col = ap (λ q. q.col) at in omega (arith, k)
past_spaces (space ∷ spaces) rest tab p cs (front, behind, e, piece, at, ends, on) all =
    let k : tab.place.col ≡ space.end.col + length spaces = past_spaces spaces rest tab space.end behind on (All-tail IsSpace space spaces all) in
    let f : front ≡ 32 ∷ [] = space_front p front behind space.shape piece (All-head IsSpace space spaces all) in
    let l : space.end.col ≡ p.col + 1 = ap (λ q. q.col) (ends ∙ ap (after p) f) in
    omega (arith, k, l)
