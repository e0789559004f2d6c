-- Bounds on the pieces of a text, and the bytes of its names.
use Rattle.std.specs.Prelude.{length}
use Rattle.std.proofs.Common.{ℕ, suc, ◌≡◌, ◌<◌, ◌≤◌, ◌+◌, ◌^◌, ◌==◌, ◌&&◌, Bool, true, false, List, [], ◌∷◌, ◌++◌, refl, sym, ap, ◌∙◌, arith, length-append}
use Rattle.std.proofs.Math.Utf8.{scalar, scalars}
use Rattle.std.specs.Str.{IsUtf8, chars}
use Rattle.std.proofs.lemmas.Str.{scalars-chars}
use Rattle.py_base.specs.declared.Place.{Place}
use Rattle.py_tokens.specs.declared.TokenForm.TheVariants as forms
use Rattle.py_tokens.specs.declared.Piece.{Piece}
use Rattle.py_tokens.specs.declared.Shape.{Shape}
use Rattle.py_tokens.specs.declared.Shape.TheVariants as shapes
use Rattle.py_tokens.specs.PlacedText.{after, after_one, text_start, text_characters, with_line_ends, without_order_mark, begins_with_lf}
use Rattle.py_tokens.specs.TextPieces.{IsPiece, a_name, a_keyword, a_number, a_large_number, a_mark, a_string, a_space, a_tab, a_comment, a_line_end, a_bad_escape, an_open_string, a_stray, CutInto}
use Rattle.py_tokens.specs.LineLayout.{end_place}
use Rattle.py_tokens.specs.TextTokens.{PiecesOf}
use Rattle.py_tokens.specs.PieceLaws.{not_empty}
use Rattle.py_lexer.specs.Walk.{AreTextNames}
use Rattle.py_lexer.proofs.CharacterCount.{chars_fewer}
use Rattle.py_lexer.proofs.PieceEnds.{from_one}
use Rattle.py_lexer.proofs.Turning.{is_same}

-- Each piece has a character.
fewer_pieces : (pieces : List Piece) (p : Place) (cs : List ℕ) → CutInto p cs pieces → length pieces ≤ length cs
fewer_pieces [] p cs cut = omega arith
fewer_pieces (piece ∷ pieces) p cs (front, rest, e, is, at, ends, on) =
    let (c, more, f) = not_empty p front rest piece.shape is in
    let k : length pieces ≤ length rest = fewer_pieces pieces piece.end rest on in
    let l : length cs ≡ length front + length rest = ap length e ∙ length-append front rest in
    let m : length front ≡ suc (length more) = ap length f in
    omega (arith, k, l, m)

mark_step : (b : Bool) (c : ℕ) (cs : List ℕ) → (c == 65279) ≡ b → length (without_order_mark (c ∷ cs)) ≤ length cs + 1
mark_step true c cs e = rw e (omega arith)
mark_step false c cs e = rw e (omega arith)

fewer_unmarked : (cs : List ℕ) → length (without_order_mark cs) ≤ length cs
fewer_unmarked [] = omega arith
fewer_unmarked (c ∷ cs) = let k : length (without_order_mark (c ∷ cs)) ≤ length cs + 1 = mark_step (c == 65279) c cs refl in omega (arith, k)

ends_step : (a b : Bool) (c : ℕ) (cs : List ℕ) → (c == 13) ≡ a → begins_with_lf cs ≡ b → length (with_line_ends cs) ≤ length cs → length (with_line_ends (c ∷ cs)) ≤ length cs + 1
ends_step true true c cs e f h = rw e (rw f (omega (arith, h)))
ends_step true false c cs e f h = rw e (rw f (omega (arith, h)))
ends_step false b c cs e f h = rw e (omega (arith, h))

fewer_ends : (cs : List ℕ) → length (with_line_ends cs) ≤ length cs
fewer_ends [] = omega arith
fewer_ends (c ∷ cs) = let k : length (with_line_ends (c ∷ cs)) ≤ length cs + 1 = ends_step (c == 13) (begins_with_lf cs) c cs refl refl (fewer_ends cs) in omega (arith, k)

fewer_characters : (bytes : List ℕ) → length (text_characters bytes) ≤ length bytes
fewer_characters bytes =
    let a : length (chars bytes) ≤ length bytes = chars_fewer bytes in
    let b : length (without_order_mark (chars bytes)) ≤ length (chars bytes) = fewer_unmarked (chars bytes) in
    let c : length (text_characters bytes) ≤ length (without_order_mark (chars bytes)) = fewer_ends (without_order_mark (chars bytes)) in
    omega (arith, a, b, c)

pub few_pieces : (bytes : List ℕ) (pieces : List Piece) → length bytes + 1 < 2 ^ 32 → PiecesOf bytes pieces → length pieces + 1 < 2 ^ 32
few_pieces bytes pieces h whole =
    let a : length pieces ≤ length (text_characters bytes) = fewer_pieces pieces text_start (text_characters bytes) whole.1 in
    let b : length (text_characters bytes) ≤ length bytes = fewer_characters bytes in
    omega (arith, a, b, h)

spread_step : (b : Bool) (p : Place) (c : ℕ) → (c == 10) ≡ b → 1 ≤ p.col → ((after_one p c).line + (after_one p c).col ≤ p.line + p.col + 1) × (1 ≤ (after_one p c).col)
spread_step true p c e h = rw e (omega arith, omega arith)
spread_step false p c e h = rw e (omega arith, omega arith)

-- a line and a column together grow by one at each character at most
spread : (cs : List ℕ) (p : Place) → 1 ≤ p.col → (after p cs).line + (after p cs).col ≤ p.line + p.col + length cs
spread [] p h = omega arith
spread (c ∷ cs) p h =
    let (a, b) = spread_step (c == 10) p c refl h in
    let k : (after (after_one p c) cs).line + (after (after_one p c) cs).col ≤ (after_one p c).line + (after_one p c).col + length cs = spread cs (after_one p c) b in
    omega (arith, a, k)

not_one : (n : ℕ) → 1 ≤ n → (n == 1) ≡ false → 2 ≤ n
not_one n h e = let k : ¬ (n ≡ 1) = (λ i. let t : (n == 1) ≡ true = is_same n 1 i in cc) in omega (arith, h, k)

end_step : (b : Bool) (p : Place) (n : ℕ) → (p.col == 1) ≡ b → 1 ≤ p.col → p.line + p.col ≤ n + 2 → n + 1 < 2 ^ 32 → (end_place p).line < 2 ^ 32
end_step true p n e h s l = rw e (omega (arith, h, s, l))
end_step false p n e h s l = let k : 2 ≤ p.col = not_one p.col h e in rw e (omega (arith, k, s, l))

pub low_end : (bytes : List ℕ) (p : Place) → length bytes + 1 < 2 ^ 32 → p ≡ after text_start (text_characters bytes) → (end_place p).line < 2 ^ 32
low_end bytes p h at =
    let cs : List ℕ = text_characters bytes in
    let a : length cs ≤ length bytes = fewer_characters bytes in
    let b : p.line ≡ (after text_start cs).line = ap (λ q. q.line) at in
    let c : p.col ≡ (after text_start cs).col = ap (λ q. q.col) at in
    let d : (after text_start cs).line + (after text_start cs).col ≤ 2 + length cs = spread cs text_start (omega arith) in
    let e : 1 ≤ (after text_start cs).col = from_one cs text_start (omega arith) in
    end_step (p.col == 1) p (length bytes) refl (omega (arith, c, e)) (omega (arith, a, b, c, d)) h

and_both : (a b : Bool) → (a && b) ≡ true → (a ≡ true) × (b ≡ true)
and_both true b h = (refl, h)
and_both false b h = absurd cc

both_and : (a b : Bool) → a ≡ true → b ≡ true → (a && b) ≡ true
both_and true true h k = refl
both_and true false h k = cc
both_and false b h k = cc

scalars_apart : (front rest : List ℕ) → scalars (front ++ rest) ≡ true → (scalars front ≡ true) × (scalars rest ≡ true)
scalars_apart [] rest h = (refl, h)
scalars_apart (c ∷ front) rest h = let (a, b) = and_both (scalar c) (scalars (front ++ rest)) h in let (k, l) = scalars_apart front rest b in (both_and (scalar c) (scalars front) a k, l)

unmarked_step : (b : Bool) (c : ℕ) (cs : List ℕ) → (c == 65279) ≡ b → scalars (c ∷ cs) ≡ true → scalars (without_order_mark (c ∷ cs)) ≡ true
unmarked_step true c cs e h = rw e (and_both (scalar c) (scalars cs) h).1
unmarked_step false c cs e h = rw e h

unmarked_scalars : (cs : List ℕ) → scalars cs ≡ true → scalars (without_order_mark cs) ≡ true
unmarked_scalars [] h = h
unmarked_scalars (c ∷ cs) h = unmarked_step (c == 65279) c cs refl h

lined_step : (a b : Bool) (c : ℕ) (cs : List ℕ) → (c == 13) ≡ a → begins_with_lf cs ≡ b → scalar c ≡ true → scalars (with_line_ends cs) ≡ true → scalars (with_line_ends (c ∷ cs)) ≡ true
lined_step true true c cs e f s h = rw e (rw f h)
lined_step true false c cs e f s h = rw e (rw f h)
lined_step false b c cs e f s h = rw e (both_and (scalar c) (scalars (with_line_ends cs)) s h)

lined_scalars : (cs : List ℕ) → scalars cs ≡ true → scalars (with_line_ends cs) ≡ true
lined_scalars [] h = h
lined_scalars (c ∷ cs) h = let (a, b) = and_both (scalar c) (scalars cs) h in lined_step (c == 13) (begins_with_lf cs) c cs refl refl a (lined_scalars cs b)

name_text : (p : Place) (front rest : List ℕ) (shape : Shape) (name : List ℕ) → scalars front ≡ true → IsPiece p front rest shape → shape ≡ shapes.Whole (forms.Name name) → IsUtf8 name
name_text p front rest _ name s (a_name l k) e = (front, (s, cc))
name_text p front rest _ name s (a_keyword k l f) e = absurd cc
name_text p front rest _ name s (a_number l v) e = absurd cc
name_text p front rest _ name s (a_large_number l v) e = absurd cc
name_text p front rest _ name s (a_mark m l f) e = absurd cc
name_text p front rest _ name s (a_string q parts value t v) e = absurd cc
name_text p front rest _ name s (a_space f) e = absurd cc
name_text p front rest _ name s (a_tab f) e = absurd cc
name_text p front rest _ name s (a_comment l) e = absurd cc
name_text p front rest _ name s (a_line_end f) e = absurd cc
name_text p front rest _ name s (a_bad_escape q parts more value t v) e = absurd cc
name_text p front rest _ name s (an_open_string o r) e = absurd cc
name_text p front rest _ name s (a_stray c f n) e = absurd cc

names_in : (pieces : List Piece) (p : Place) (cs : List ℕ) → scalars cs ≡ true → CutInto p cs pieces → AreTextNames pieces
names_in [] p cs s cut = tt
names_in (piece ∷ pieces) p cs s (front, rest, e, is, at, ends, on) =
    let (a, b) = scalars_apart front rest (sym (ap scalars e) ∙ s) in
    (λ name h. name_text p front rest piece.shape name a is h, names_in pieces piece.end rest b on)

pub names_are_texts : (bytes : List ℕ) (pieces : List Piece) → PiecesOf bytes pieces → AreTextNames pieces
names_are_texts bytes pieces whole = names_in pieces text_start (text_characters bytes) (lined_scalars (without_order_mark (chars bytes)) (unmarked_scalars (chars bytes) (scalars-chars bytes whole.0))) whole.1
