-- Each text has tokens or a first fault.
use Rattle.std.proofs.Common.{ℕ, zero, suc, ◌<◌, ◌⊎◌, inl, inr, arith, refl, sym, List, [], ◌∷◌, length, take, drop, length-drop, take-append-drop, Result, Ok, Err}
use Rattle.std.specs.Str.{IsUtf8, IsValidUpTo}
use Rattle.py_base.specs.declared.Place.{Place}
use Rattle.py_tokens.specs.declared.Token.{Token}
use Rattle.py_tokens.specs.declared.Piece.{Piece}
use Rattle.py_tokens.specs.declared.LexFault.{LexFault}
use Rattle.py_tokens.specs.declared.LexFault.TheVariants as faults
use Rattle.py_tokens.specs.PlacedText.{text_characters, text_start, after}
use Rattle.py_tokens.specs.TextPieces.{CutInto}
use Rattle.py_tokens.specs.TextTokens.{IsFirstFault, Tokens}
use Rattle.py_lexer.specs.Walk.{first_layout, walked}
use Rattle.py_lexer.proofs.Judging.{Judges, walk_judges, bad_byte_first}
use Rattle.py_lexer.proofs.EachUtf8.{utf8_or_bad_byte}
use Rattle.py_lexer.proofs.EachPiece.{piece_in_front}

cut_within : (steps : ℕ) (p : Place) (cs : List ℕ) → length cs < steps → (pieces : List Piece) × CutInto p cs pieces
cut_within zero p cs l = absurd (omega arith)
cut_within (suc steps) p [] l = ([], refl)
cut_within (suc steps) p (c ∷ cs) l =
    let (n, shape, (some, within, is)) = piece_in_front p c cs in
    let end : Place = after p (take n (c ∷ cs)) in
    let left : length (drop n (c ∷ cs)) < steps = (let e = length-drop n (c ∷ cs) in omega arith) in
    let (pieces, h) = cut_within steps end (drop n (c ∷ cs)) left in
    (record { place = p; end = end; shape = shape } ∷ pieces, (take n (c ∷ cs), drop n (c ∷ cs), sym (take-append-drop n (c ∷ cs)), is, refl, refl, h))

-- the characters are cut into pieces
pub each_is_cut : (p : Place) (cs : List ℕ) → (pieces : List Piece) × CutInto p cs pieces
each_is_cut p cs = cut_within (suc (length cs)) p cs (omega arith)

abbrev HasAnswer : List ℕ → Type 0
HasAnswer bytes = ((ts : List Token) × Tokens bytes ts) ⊎ ((f : LexFault) × IsFirstFault bytes f)

answer_of : (bytes : List ℕ) (result : Result (List Token) LexFault) → Judges bytes result → HasAnswer bytes
answer_of bytes (Ok ts) h = inl (ts, h)
answer_of bytes (Err f) h = inr (f, h)

answer_by : (bytes : List ℕ) → IsUtf8 bytes ⊎ ((n : ℕ) × IsValidUpTo bytes n) → HasAnswer bytes
answer_by bytes (inl utf8) =
    let end : Place = after text_start (text_characters bytes) in
    let (pieces, cut) = each_is_cut text_start (text_characters bytes) in
    answer_of bytes (walked end first_layout [] pieces) (walk_judges bytes pieces end (utf8, cut) refl)
answer_by bytes (inr (n, valid)) =
    let end : Place = after text_start (text_characters (take n bytes)) in
    inr (faults.BadUtf8 end, bad_byte_first bytes (faults.BadUtf8 end) (end, refl, (n, valid, refl)))

pub each_text : (bytes : List ℕ) → ((ts : List Token) × Tokens bytes ts) ⊎ ((f : LexFault) × IsFirstFault bytes f)
each_text bytes = answer_by bytes (utf8_or_bad_byte bytes)
