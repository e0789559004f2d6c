-- One more piece behind those that a text is cut into so far.
use Rattle.std.proofs.Common.{ℕ, ◌≡◌, ◌≤◌, ◌+◌, ◌==◌, Bool, true, false, cond, arith, refl, sym, ap, subst, List, [], ◌∷◌, ◌++◌, length, map, append_assoc}
use Rattle.std.specs.Str.{chars}
use Rattle.std.proofs.lemmas.Bool.{eqb-true}
use Rattle.py_base.specs.declared.Place.{Place}
use Rattle.py_tokens.specs.declared.Piece.{Piece}
use Rattle.py_tokens.specs.declared.Shape.{Shape}
use Rattle.py_tokens.specs.declared.Spot.{Spot}
use Rattle.py_tokens.specs.PlacedText.{without_order_mark, begins_with_lf, with_line_ends, text_characters, after_one, after, placed}
use Rattle.py_tokens.specs.TextPieces.{IsPiece, CutInto}
use Rattle.py_lexer.proofs.CharacterCount.{chars_fewer}

one_within : (b : Bool) (p : Place) (c : ℕ) → (c == 10) ≡ b → ((after_one p c).line ≤ p.line + 1) × ((after_one p c).col ≤ p.col + 1)
one_within true p c h = rw h (omega arith, omega arith)
one_within false p c h = rw h (omega arith, omega arith)

pub after_within : (p : Place) (cs : List ℕ) → ((after p cs).line ≤ p.line + length cs) × ((after p cs).col ≤ p.col + length cs)
after_within p [] = (omega arith, omega arith)
after_within p (c ∷ cs) =
    let h : ((after_one p c).line ≤ p.line + 1) × ((after_one p c).col ≤ p.col + 1) = one_within (c == 10) p c refl in
    let i : ((after (after_one p c) cs).line ≤ (after_one p c).line + length cs) × ((after (after_one p c) cs).col ≤ (after_one p c).col + length cs) = after_within (after_one p c) cs in
    (omega arith, omega arith)

pub cut_more : (p q : Place) (cs front rest : List ℕ) (shape : Shape) (start : Place) (all : List ℕ) (pieces : List Piece) → cs ≡ front ++ rest → IsPiece p front rest shape → q ≡ after p front → ((more : List Piece) → CutInto p cs more → CutInto start all (pieces ++ more)) → (more : List Piece) → CutInto q rest more → CutInto start all ((pieces ++ record { place = p; end = q; shape = shape } ∷ []) ++ more)
cut_more p q cs front rest shape start all pieces e h k so_far more i = subst (λ (x : List Piece). CutInto start all x) (sym (append_assoc pieces (record { place = p; end = q; shape = shape } ∷ []) more)) (so_far (record { place = p; end = q; shape = shape } ∷ more) (front, rest, e, h, refl, k, i))

pub codes_placed : (p : Place) (cs : List ℕ) → map (λ (spot : Spot). spot.code) (placed p cs) ≡ cs
codes_placed p [] = refl
codes_placed p (c ∷ cs) = ap (λ x. c ∷ x) (codes_placed (after_one p c) cs)

ends_by : (b d : Bool) (c : ℕ) (cs : List ℕ) → length (with_line_ends cs) ≤ length cs → length (cond b (cond d (with_line_ends cs) (10 ∷ with_line_ends cs)) (c ∷ with_line_ends cs)) ≤ length (c ∷ cs)
ends_by true true c cs h = omega arith
ends_by true false c cs h = omega arith
ends_by false d c cs h = omega arith

ends_fewer : (cs : List ℕ) → length (with_line_ends cs) ≤ length cs
ends_fewer [] = omega arith
ends_fewer (c ∷ cs) = ends_by (c == 13) (begins_with_lf cs) c cs (ends_fewer cs)

mark_by : (b : Bool) (c : ℕ) (cs : List ℕ) → length (cond b cs (c ∷ cs)) ≤ length (c ∷ cs)
mark_by true c cs = omega arith
mark_by false c cs = omega arith

mark_fewer : (cs : List ℕ) → length (without_order_mark cs) ≤ length cs
mark_fewer [] = omega arith
mark_fewer (c ∷ cs) = mark_by (c == 65279) c cs

-- a text has no more characters than bytes
pub characters_fewer : (bytes : List ℕ) → length (text_characters bytes) ≤ length bytes
characters_fewer bytes =
    let h : length (text_characters bytes) ≤ length (without_order_mark (chars bytes)) = ends_fewer (without_order_mark (chars bytes)) in
    let i : length (without_order_mark (chars bytes)) ≤ length (chars bytes) = mark_fewer (chars bytes) in
    let k = chars_fewer bytes in
    omega arith

pub nothing_left : (cs : List ℕ) → (length cs == 0) ≡ true → cs ≡ []
nothing_left [] h = refl
nothing_left (c ∷ cs) h = let e : length (c ∷ cs) ≡ 0 = eqb-true (length (c ∷ cs)) 0 h in absurd (omega arith)
