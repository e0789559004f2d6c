-- The strings in front of some texts.
use Rattle.std.specs.Prelude.{codes}
use Rattle.std.proofs.Common.{ℕ, ◌≡◌, inl, arith, refl, sym, subst, List, [], ◌∷◌}
use Rattle.py_base.specs.declared.Place.{Place}
use Rattle.py_tokens.specs.declared.piece.Shape.TheVariants as shapes
use Rattle.py_tokens.specs.declared.token.TokenForm.TheVariants as forms
use Rattle.py_tokens.specs.StringForms.{Quotes, Single, Triple, BeginsWith, OpensWith, opens_single, opens_triple, Part, Plain, Escape, LoneBackslash, IsEscape, backslash, apostrophe, quotation, line_feed, tabulator, GoesOn, SpellsString}
use Rattle.py_tokens.specs.TextPieces.{IsPiece, a_string, a_bad_escape, an_open_string}
use Rattle.py_tokens.specs.StringLaws.{same_quotes}

-- the first or second character is another one
not_first : (c d : ℕ) (cs more : List ℕ) → (c ≡ d → ⊥) → BeginsWith (c ∷ cs) (d ∷ more) → ⊥
not_first c d cs more n h = let (rest, e) = h in let k : c ≡ d = cc in n k

not_second : (a b c d : ℕ) (cs more : List ℕ) → (c ≡ d → ⊥) → BeginsWith (a ∷ c ∷ cs) (b ∷ d ∷ more) → ⊥
not_second a b c d cs more n h = let (rest, e) = h in let k : c ≡ d = cc in n k

pub escaped_example : (p : Place) → IsPiece p (codes "'\\''") (codes "'") (shapes.Whole (forms.Str (codes "'")))
unfolding lib.Utf8.encode
escaped_example p = a_string (Single 39) (Escape 39 39 ∷ []) (39 ∷ []) spells ([], refl, refl)
  where
    spells : SpellsString (codes "'\\'''") (Single 39) (Escape 39 39 ∷ []) (codes "'")
    spells = (codes "\\'''", opens_single 39 (inl refl) (codes "\\'''", refl) (not_second 39 39 92 39 (codes "'''") (39 ∷ []) (omega arith)), refl, (codes "''", refl, not_first 92 39 (codes "'''") [] (omega arith), apostrophe, refl))

pub triple_example : (p : Place) → IsPiece p (codes "''''a'''") (codes "b") (shapes.Whole (forms.Str (codes "'a")))
unfolding lib.Utf8.encode
triple_example p = a_string (Triple 39) (Plain 39 ∷ Plain 97 ∷ []) (codes "'a") spells (97 ∷ [], refl, ([], refl, refl))
  where
    spells : SpellsString (codes "''''a'''b") (Triple 39) (Plain 39 ∷ Plain 97 ∷ []) (codes "b")
    spells = (
      codes "'a'''b",
      opens_triple 39 (inl refl) (codes "'a'''b", refl),
      refl,
      (
        codes "a'''b",
        refl,
        not_second 39 39 97 39 (codes "'''b") (39 ∷ []) (omega arith),
        (omega arith, tt),
        (codes "'''b", refl, not_first 97 39 (codes "'''b") (39 ∷ 39 ∷ []) (omega arith), (omega arith, tt), refl),
      ),
    )

no_q : (c v : ℕ) → IsEscape c v → BeginsWith (codes "q'") (c ∷ []) → ⊥
no_q c v backslash h = not_first 113 92 (codes "'") [] (omega arith) h
no_q c v apostrophe h = not_first 113 39 (codes "'") [] (omega arith) h
no_q c v quotation h = not_first 113 34 (codes "'") [] (omega arith) h
no_q c v line_feed h = not_first 113 110 (codes "'") [] (omega arith) h
no_q c v tabulator h = not_first 113 116 (codes "'") [] (omega arith) h

pub bad_example : IsPiece (record { line = 3; col = 5 }) (codes "'a\\q'") [] (shapes.BadEscape (record { line = 3; col = 7 }))
bad_example = a_bad_escape (Single 39) (Plain 97 ∷ []) (Plain 113 ∷ []) (codes "a") spells ([], refl, refl)
  where
    spells : SpellsString (codes "'a\\q'") (Single 39) (Plain 97 ∷ LoneBackslash ∷ Plain 113 ∷ []) []
    spells = (
      codes "a\\q'",
      opens_single 39 (inl refl) (codes "a\\q'", refl) (not_second 39 39 97 39 (codes "\\q'") (39 ∷ []) (omega arith)),
      refl,
      (
        codes "\\q'",
        refl,
        not_first 97 39 (codes "\\q'") [] (omega arith),
        (omega arith, omega arith),
        (
          codes "q'",
          refl,
          not_first 92 39 (codes "q'") [] (omega arith),
          no_q,
          (codes "'", refl, not_first 113 39 (codes "'") [] (omega arith), (omega arith, omega arith), refl),
        ),
      ),
    )

other_first : (c d : ℕ) (cs ds : List ℕ) → (c ≡ d → ⊥) → c ∷ cs ≡ d ∷ ds → ⊥
other_first c d cs ds n e = let k : c ≡ d = cc in n k

at_line_end : (parts : List Part) (rest : List ℕ) → GoesOn (Single 39) (10 ∷ 39 ∷ []) parts (39 ∷ rest) → ⊥
at_line_end [] rest h = other_first 10 39 (39 ∷ []) rest (omega arith) h
at_line_end (Plain c ∷ parts) rest h =
    let (more, e, n, is, on) = h in
    other_first 10 c (39 ∷ []) more (λ k. is.1 (sym k)) e
at_line_end (Escape c v ∷ parts) rest h =
    let (more, e, n, is, on) = h in
    other_first 10 92 (39 ∷ []) (c ∷ more) (omega arith) e
at_line_end (LoneBackslash ∷ parts) rest h =
    let (more, e, n, is, on) = h in
    other_first 10 92 (39 ∷ []) more (omega arith) e

at_letter : (parts : List Part) (rest : List ℕ) → GoesOn (Single 39) (97 ∷ 10 ∷ 39 ∷ []) parts (39 ∷ rest) → ⊥
at_letter [] rest h = other_first 97 39 (10 ∷ 39 ∷ []) rest (omega arith) h
at_letter (Plain c ∷ parts) rest h =
    let (more, e, n, is, on) = h in
    let k : more ≡ 10 ∷ 39 ∷ [] = cc in
    at_line_end parts rest (subst (λ (cs : List ℕ). GoesOn (Single 39) cs parts (39 ∷ rest)) k on)
at_letter (Escape c v ∷ parts) rest h =
    let (more, e, n, is, on) = h in
    other_first 97 92 (10 ∷ 39 ∷ []) (c ∷ more) (omega arith) e
at_letter (LoneBackslash ∷ parts) rest h =
    let (more, e, n, is, on) = h in
    other_first 97 92 (10 ∷ 39 ∷ []) more (omega arith) e

opens : OpensWith (39 ∷ 97 ∷ 10 ∷ 39 ∷ []) (Single 39)
opens = opens_single 39 (inl refl) (97 ∷ 10 ∷ 39 ∷ [], refl) (not_second 39 39 97 39 (10 ∷ 39 ∷ []) (39 ∷ []) (omega arith))

no_end : (quotes : Quotes) (parts : List Part) (rest : List ℕ) → SpellsString (39 ∷ 97 ∷ 10 ∷ 39 ∷ []) quotes parts rest → ⊥
no_end quotes parts rest h =
    let same : quotes ≡ Single 39 = same_quotes (39 ∷ 97 ∷ 10 ∷ 39 ∷ []) quotes (Single 39) h.1 opens in
    let (inner, o, e, on) = subst (λ (q : Quotes). SpellsString (39 ∷ 97 ∷ 10 ∷ 39 ∷ []) q parts rest) same h in
    let k : inner ≡ 97 ∷ 10 ∷ 39 ∷ [] = cc in
    at_letter parts rest (subst (λ (cs : List ℕ). GoesOn (Single 39) cs parts (39 ∷ rest)) k on)

pub unclosed_example : (p : Place) → IsPiece p (39 ∷ 97 ∷ 10 ∷ 39 ∷ []) [] shapes.Unclosed
unclosed_example p = an_open_string ((Single 39, opens), no_end) refl
