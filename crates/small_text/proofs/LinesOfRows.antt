-- A text whose lines are those of rows is the text of the rows.
use Rattle.std.proofs.Common.{ℕ, ◌≡◌, ◌<◌, ◌==◌, Bool, true, false, cond, arith, refl, sym, ap, ◌∙◌, subst, List, [], ◌∷◌, ◌++◌, map, length, eqb-true}
use Rattle.std.specs.Prelude.{⊤}
use Rattle.small_text.specs.TextLines.{lines_of, onto_first}
use Rattle.small_text.proofs.LineBits.{Row, row_text, rows_text, IsClosed}

-- the text of lines; the last one has its end or lacks it
abbrev joined : List (List ℕ) → Bool → List ℕ
joined [] ended = []
joined (l ∷ []) false = l
joined (l ∷ ls) ended = l ++ 10 ∷ joined ls ended

-- a last line without its end has a character
abbrev LastIsFilled : List (List ℕ) → Bool → Type 0
LastIsFilled [] ended = ⊤
LastIsFilled (l ∷ []) true = ⊤
LastIsFilled (l ∷ []) false = 0 < length l
LastIsFilled (l ∷ m ∷ ls) ended = LastIsFilled (m ∷ ls) ended

-- the text is that of the lines
abbrev IsJoined : List ℕ → List (List ℕ) → Type 0
IsJoined text ls = (ended : Bool) × (text ≡ joined ls ended) × LastIsFilled ls ended

empty_line : (text : List ℕ) (ls : List (List ℕ)) → IsJoined text ls → IsJoined (10 ∷ text) ([] ∷ ls)
empty_line text [] (ended, e, h) = (true, ap (λ t. 10 ∷ t) e, tt)
empty_line text (l ∷ ls) (ended, e, h) = (ended, ap (λ t. 10 ∷ t) e, h)

in_front : (b : ℕ) (text : List ℕ) (ls : List (List ℕ)) → IsJoined text ls → IsJoined (b ∷ text) (onto_first b ls)
in_front b text [] (ended, e, h) = (false, ap (λ t. b ∷ t) e, omega arith)
in_front b text (l ∷ []) (true, e, h) = (true, ap (λ t. b ∷ t) e, tt)
in_front b text (l ∷ []) (false, e, h) = (false, ap (λ t. b ∷ t) e, omega arith)
in_front b text (l ∷ m ∷ ls) (ended, e, h) = (ended, ap (λ t. b ∷ t) e, h)

one_more : (c : Bool) (b : ℕ) (text : List ℕ) (ls : List (List ℕ)) → (b == 10) ≡ c → IsJoined text ls → IsJoined (b ∷ text) (cond c ([] ∷ ls) (onto_first b ls))
one_more true b text ls e h = subst (λ (n : ℕ). IsJoined (n ∷ text) ([] ∷ ls)) (sym (eqb-true b 10 e)) (empty_line text ls h)
one_more false b text ls e h = in_front b text ls h

lines_join : (text : List ℕ) → IsJoined text (lines_of text)
lines_join [] = (true, refl, tt)
lines_join (b ∷ text) = one_more (b == 10) b text (lines_of text) refl (lines_join text)

same_text : (rows : List Row) (ended : Bool) → joined (map row_text rows) ended ≡ rows_text rows ended
same_text [] ended = refl
same_text (r ∷ []) false = refl
same_text (r ∷ []) true = refl
same_text (r ∷ s ∷ rows) ended = ap (λ t. row_text r ++ 10 ∷ t) (same_text (s ∷ rows) ended)

closes : (rows : List Row) (ended : Bool) → LastIsFilled (map row_text rows) ended → IsClosed rows ended
closes [] ended h = tt
closes (r ∷ []) false h = h
closes (r ∷ []) true h = tt
closes (r ∷ s ∷ rows) ended h = closes (s ∷ rows) ended h

-- The text is that of the rows.
pub as_rows : (text : List ℕ) (rows : List Row) → lines_of text ≡ map row_text rows → (ended : Bool) × (text ≡ rows_text rows ended) × IsClosed rows ended
as_rows text rows e =
    let (ended, whole, h) = subst (IsJoined text) e (lines_join text) in
    (ended, whole ∙ same_text rows ended, closes rows ended h)
