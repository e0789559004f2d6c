-- A text is cut into pieces in one way only, and their places ascend.
use Rattle.std.specs.Prelude.{All}
use Rattle.std.proofs.Common.{ℕ, ◌≡◌, refl, sym, ap, ◌∙◌, subst, List, [], ◌∷◌, ◌++◌, append-nil, append_assoc}
use Rattle.std.proofs.lemmas.List.Elements.{All-nil, All-cons}
use Rattle.py_base.specs.declared.Place.{Place}
use Rattle.py_tokens.specs.declared.piece.Piece.{Piece}
use Rattle.py_tokens.specs.declared.piece.Shape.{Shape}
use Rattle.py_tokens.specs.declared.piece.Shape.TheVariants as shapes
use Rattle.py_tokens.specs.PlacedText.{after}
use Rattle.py_tokens.specs.TextPieces.{IsPiece, CutInto}
use Rattle.py_tokens.specs.PlaceLaws.{Precedes, precedes_trans, precedes_after, after-append}
use Rattle.py_tokens.specs.PieceLaws.{same_piece, not_empty, escape_inside}

-- what a front of pieces covers, and where the rest begins
pub cut_behind : (before rest : List Piece) (p : Place) (cs : List ℕ) → CutInto p cs (before ++ rest) → (front : List ℕ) × (more : List ℕ) × (cs ≡ front ++ more) × CutInto (after p front) more rest
cut_behind [] rest p cs h = ([], cs, refl, h)
cut_behind (b ∷ before) rest p cs h =
    let (front, behind, e, is, at, ends, on) = h in
    let (f, m, k, c) = cut_behind before rest b.end behind on in
    let whole : cs ≡ front ++ f ++ m = e ∙ ap (λ (t : List ℕ). front ++ t) k ∙ sym (append_assoc front f m) in
    let place : after b.end f ≡ after p (front ++ f) = ap (λ (q : Place). after q f) ends ∙ sym (after-append front f p) in
    (front ++ f, m, whole, subst (λ (q : Place). CutInto q m rest) place c)

-- The last piece ends behind the text.
pub cut_end : (pieces : List Piece) (last : Piece) (p : Place) (cs : List ℕ) → CutInto p cs (pieces ++ last ∷ []) → last.end ≡ after p cs
cut_end pieces last p cs h =
    let (front, more, e, c) = cut_behind pieces (last ∷ []) p cs h in
    let (f, r, k, is, at, ends, none) = c in
    let whole : cs ≡ front ++ f = e ∙ ap (λ (t : List ℕ). front ++ t) (k ∙ ap (λ (t : List ℕ). f ++ t) none ∙ append-nil f) in
    ends ∙ sym (after-append front f p) ∙ ap (after p) (sym whole)

-- A piece ends behind its place.
spans : (p : Place) (front rest : List ℕ) (piece : Piece) → IsPiece p front rest piece.shape → piece.end ≡ after p front → Precedes p piece.end
spans p front rest piece is ends =
    let (c, cs, e) = not_empty p front rest piece.shape is in
    subst (Precedes p) (ap (after p) (sym e) ∙ sym ends) (precedes_after cs p c)

pub piece_spans : (p : Place) (cs : List ℕ) (before rest : List Piece) (piece : Piece) → CutInto p cs (before ++ piece ∷ rest) → Precedes piece.place piece.end
piece_spans p cs before rest piece h =
    let (front, more, e, c) = cut_behind before (piece ∷ rest) p cs h in
    let (f, r, k, is, at, ends, on) = c in
    subst (λ (q : Place). Precedes q piece.end) (sym at) (spans (after p front) f r piece is ends)

-- A piece begins where the one in front of it ends.
pub pieces_touch : (p : Place) (cs : List ℕ) (before rest : List Piece) (piece next : Piece) → CutInto p cs (before ++ piece ∷ next ∷ rest) → next.place ≡ piece.end
pieces_touch p cs before rest piece next h =
    let (front, more, e, c) = cut_behind before (piece ∷ next ∷ rest) p cs h in
    let (f, r, k, is, at, ends, on) = c in
    let (f', r', k', is', at', ends', on') = on in
    at'

ascend : (ps : List Piece) (p q : Place) (cs : List ℕ) → Precedes p q → CutInto q cs ps → All (λ x. Precedes p x.place) ps
ascend [] p q cs h c = All-nil (λ x. Precedes p x.place)
ascend (x ∷ xs) p q cs h c =
    let (f, r, k, is, at, ends, on) = c in
    All-cons (λ x. Precedes p x.place) x xs (subst (Precedes p) (sym at) h) (ascend xs p x.end r (precedes_trans p q x.end h (spans q f r x is ends)) on)

-- The pieces behind a piece have later places.
pub places_ascend : (p : Place) (cs : List ℕ) (before rest : List Piece) (piece : Piece) → CutInto p cs (before ++ piece ∷ rest) → All (λ q. Precedes piece.place q.place) rest
places_ascend p cs before rest piece h =
    let (front, more, e, c) = cut_behind before (piece ∷ rest) p cs h in
    let (f, r, k, is, at, ends, on) = c in
    ascend rest piece.place piece.end r (piece_spans p cs before rest piece h) on

-- The place of a backslash that begins no escape lies within its string.
pub escape_within : (p : Place) (cs : List ℕ) (before rest : List Piece) (piece : Piece) (q : Place) → CutInto p cs (before ++ piece ∷ rest) → piece.shape ≡ shapes.BadEscape q → Precedes piece.place q × Precedes q piece.end
escape_within p cs before rest piece q h bad =
    let (front, more, e, c) = cut_behind before (piece ∷ rest) p cs h in
    let (f, r, k, is, at, ends, on) = c in
    let (from, to) = escape_inside (after p front) f r q (subst (IsPiece (after p front) f r) bad is) in
    (subst (λ (s : Place). Precedes s q) (sym at) from, subst (Precedes q) (sym ends) to)

abbrev piece_of : Place → Place → Shape → Piece
piece_of p e s = record { place = p; end = e; shape = s }

same_fields : (a b : Piece) → a.place ≡ b.place → a.end ≡ b.end → a.shape ≡ b.shape → a ≡ b
same_fields a b p e s = ap (λ (q : Place). piece_of q a.end a.shape) p ∙ ap (λ (q : Place). piece_of b.place q a.shape) e ∙ ap (piece_of b.place b.end) s

no_piece : (p : Place) (cs : List ℕ) (q : Piece) (qs : List Piece) → cs ≡ [] → CutInto p cs (q ∷ qs) → ⊥
no_piece p cs q qs none h =
    let (f, r, k, is, at, ends, on) = h in
    let (c, ds, e) = not_empty p f r q.shape is in
    let bad : [] ≡ c ∷ (ds ++ r) = sym none ∙ k ∙ ap (λ (t : List ℕ). t ++ r) e in
    cc

-- The characters at a place are cut into pieces in one way only.
pub same_cut : (ps qs : List Piece) (p : Place) (cs : List ℕ) → CutInto p cs ps → CutInto p cs qs → ps ≡ qs
same_cut [] [] p cs h i = refl
same_cut [] (y ∷ qs) p cs h i = absurd (no_piece p cs y qs h i)
same_cut (x ∷ ps) [] p cs h i = absurd (no_piece p cs x ps i h)
same_cut (x ∷ ps) (y ∷ qs) p cs h i =
    let (f, r, k, is, at, ends, on) = h in
    let (g, t, l, it, there, stops, go) = i in
    let (fronts, rests, shapes) = same_piece p f r g t x.shape y.shape (sym k ∙ l) is it in
    let end : x.end ≡ y.end = ends ∙ ap (after p) fronts ∙ sym stops in
    let one : x ≡ y = same_fields x y (at ∙ sym there) end shapes in
    let go' : CutInto x.end r qs = subst (λ (q : Place). CutInto q r qs) (sym end) (subst (λ (z : List ℕ). CutInto y.end z qs) (sym rests) go) in
    let more : ps ≡ qs = same_cut ps qs x.end r on go' in
    cc
