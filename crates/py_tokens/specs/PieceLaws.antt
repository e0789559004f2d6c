-- A text is cut into pieces in one way only.
use Rattle.std.specs.Prelude.{pos, encode_utf8_all}
use Rattle.std.proofs.Common.{Bool, true, false, ℕ, ◌≡◌, ◌<◌, ◌≤◌, ◌^◌, ◌⊎◌, inl, inr, arith, refl, sym, ap, ◌∙◌, subst, List, [], ◌∷◌, ◌++◌, append-nil, append_assoc, lit<}
use Rattle.std.proofs.lemmas.List.{append_cancel_left, append_cancel_right}
use Rattle.py_base.specs.declared.Place.{Place}
use Rattle.py_tokens.specs.declared.piece.Shape.{Shape}
use Rattle.py_tokens.specs.declared.piece.Shape.TheVariants as shapes
use Rattle.py_tokens.specs.declared.token.TokenForm.TheVariants as forms
use Rattle.py_tokens.specs.declared.token.Keyword.{Keyword}
use Rattle.py_tokens.specs.declared.token.Mark.{Mark}
use Rattle.py_tokens.specs.PlacedText.{after}
use Rattle.py_tokens.specs.WordForms.{is_word, is_number, keyword_text, number_value}
use Rattle.py_tokens.specs.MarkForms.{mark_text}
use Rattle.py_tokens.specs.PlaceLaws.{Precedes, precedes_after, after-append}
use Rattle.py_tokens.specs.StringForms.{GoesOn, part_text, Quotes, Single, Triple, Part, LoneBackslash, OpensWith, opens_triple, opens_single, SpellsString, IsOpenString, StandsFor, characters_of, quote_text}
use Rattle.py_tokens.specs.TextPieces.{Longest, IsWord, IsKeyword, IsNumber, IsMark, IsComment, BeginsNone, IsPiece, a_name, a_keyword, a_number, a_large_number, a_mark, a_string, a_space, a_tab, a_comment, a_line_end, a_bad_escape, an_open_string, a_stray}
use Rattle.py_tokens.specs.WordLaws as word
use Rattle.py_tokens.specs.WordLaws.{Beginning, beginning, beginning_of, plain_begins, word_begins, number_begins, mark_begins, mark_filled, comment_begins, same_longest, same_keyword, same_mark}
use Rattle.py_tokens.specs.StringLaws.{same_string, same_value, same_good, no_value}

-- the shape of a word
abbrev WordShape : List ℕ → Shape → Type 0
WordShape front shape = (¬ IsKeyword front × (shape ≡ shapes.Whole (forms.Name (encode_utf8_all front)))) ⊎ ((k : Keyword) × (front ≡ keyword_text k) × (shape ≡ shapes.Whole (forms.Key k)))

abbrev NumberShape : List ℕ → Shape → Type 0
NumberShape front shape = ((number_value front < 2 ^ 127) × (shape ≡ shapes.Whole (forms.Number (pos (number_value front))))) ⊎ ((2 ^ 127 ≤ number_value front) × (shape ≡ shapes.LargeNumber))

abbrev MarkShape : List ℕ → Shape → Type 0
MarkShape front shape = (m : Mark) × (front ≡ mark_text m) × (shape ≡ shapes.Whole (forms.Mark m))

-- the shape of a string with its end
abbrev PartsShape : Place → Quotes → List Part → Shape → Type 0
PartsShape p quotes parts shape = ((value : List ℕ) × StandsFor parts value × (shape ≡ shapes.Whole (forms.Str (encode_utf8_all value)))) ⊎ ((good : List Part) × (more : List Part) × (value : List ℕ) × (parts ≡ good ++ LoneBackslash ∷ more) × StandsFor good value × (shape ≡ shapes.BadEscape (after p (quote_text quotes ++ characters_of good))))

abbrev StringPiece : Place → List ℕ → List ℕ → Shape → Type 0
StringPiece p front rest shape = ((quotes : Quotes) × (parts : List Part) × SpellsString (front ++ rest) quotes parts rest × PartsShape p quotes parts shape) ⊎ (IsOpenString front × (rest ≡ []) × (shape ≡ shapes.Unclosed))

-- a piece, by what its first character begins
abbrev Begun : Beginning → Place → List ℕ → List ℕ → Shape → Type 0
Begun word.Word p front rest shape = Longest IsWord front rest × WordShape front shape
Begun word.Number p front rest shape = Longest IsNumber front rest × NumberShape front shape
Begun word.Comment p front rest shape = Longest IsComment front rest × (shape ≡ shapes.Comment)
Begun word.Quoted p front rest shape = StringPiece p front rest shape
Begun word.Space p front rest shape = (front ≡ 32 ∷ []) × (shape ≡ shapes.Space)
Begun word.Tab p front rest shape = (front ≡ 9 ∷ []) × (shape ≡ shapes.Tab)
Begun word.LineEnd p front rest shape = (front ≡ 10 ∷ []) × (shape ≡ shapes.LineEnd)
Begun word.Other p front rest shape = Longest IsMark front rest × MarkShape front shape

abbrev StrayPiece : List ℕ → List ℕ → Shape → Type 0
StrayPiece front rest shape = (c : ℕ) × (front ≡ c ∷ []) × BeginsNone c rest × (shape ≡ shapes.Stray)

abbrev Sorted : Place → List ℕ → List ℕ → Shape → Type 0
Sorted p front rest shape = ((k : Beginning) × (beginning_of (front ++ rest) ≡ k) × Begun k p front rest shape) ⊎ StrayPiece front rest shape

quote_begins : (q : ℕ) → ((q ≡ 39) ⊎ (q ≡ 34)) → beginning q ≡ word.Quoted
quote_begins q (inl e) = subst (λ (c : ℕ). beginning c ≡ word.Quoted) (sym e) (plain_begins 39 (lit< tt) refl refl refl)
quote_begins q (inr e) = subst (λ (c : ℕ). beginning c ≡ word.Quoted) (sym e) (plain_begins 34 (lit< tt) refl refl refl)

-- Quotes begin a string.
pub opens_begins : (cs : List ℕ) (quotes : Quotes) → OpensWith cs quotes → beginning_of cs ≡ word.Quoted
opens_begins cs quotes (opens_triple q i b) = let (rest, e) = b in ap beginning_of e ∙ quote_begins q i
opens_begins cs quotes (opens_single q i b n) = let (rest, e) = b in ap beginning_of e ∙ quote_begins q i

one_begins : (c : ℕ) (k : Beginning) (front rest : List ℕ) → front ≡ c ∷ [] → beginning c ≡ k → beginning_of (front ++ rest) ≡ k
one_begins c k front rest e h = ap (λ (f : List ℕ). beginning_of (f ++ rest)) e ∙ h

without_rest : (front rest : List ℕ) → rest ≡ [] → front ++ rest ≡ front
without_rest front rest e = ap (λ (r : List ℕ). front ++ r) e ∙ append-nil front

sorted : (p : Place) (front rest : List ℕ) (shape : Shape) → IsPiece p front rest shape → Sorted p front rest shape
sorted p front rest shape (a_name l n) = inl (word.Word, word_begins front rest l.0, (l, inl (n, refl)))
sorted p front rest shape (a_keyword k l e) = inl (word.Word, word_begins front rest l.0, (l, inr (k, e, refl)))
sorted p front rest shape (a_number l h) = inl (word.Number, number_begins front rest l.0, (l, inl (h, refl)))
sorted p front rest shape (a_large_number l h) = inl (word.Number, number_begins front rest l.0, (l, inr (h, refl)))
sorted p front rest shape (a_mark m l e) = inl (word.Other, ap (λ (f : List ℕ). beginning_of (f ++ rest)) e ∙ mark_begins m rest, (l, (m, e, refl)))
sorted p front rest shape (a_string quotes parts value s v) = inl (word.Quoted, opens_begins (front ++ rest) quotes s.1, inl (quotes, parts, s, inl (value, v, refl)))
sorted p front rest shape (a_space e) = inl (word.Space, one_begins 32 word.Space front rest e (plain_begins 32 (lit< tt) refl refl refl), (e, refl))
sorted p front rest shape (a_tab e) = inl (word.Tab, one_begins 9 word.Tab front rest e (plain_begins 9 (lit< tt) refl refl refl), (e, refl))
sorted p front rest shape (a_comment l) =
    let (text, e, t) = l.0 in
    inl (word.Comment, ap (λ (f : List ℕ). beginning_of (f ++ rest)) e ∙ comment_begins text rest, (l, refl))
sorted p front rest shape (a_line_end e) = inl (word.LineEnd, one_begins 10 word.LineEnd front rest e (plain_begins 10 (lit< tt) refl refl refl), (e, refl))
sorted p front rest shape (a_bad_escape quotes parts more value s v) = inl (word.Quoted, opens_begins (front ++ rest) quotes s.1, inl (quotes, parts ++ LoneBackslash ∷ more, s, inr (parts, more, value, refl, v, refl)))
sorted p front rest shape (an_open_string o e) =
    let (quotes, opens) = o.0 in
    inl (word.Quoted, ap beginning_of (without_rest front rest e) ∙ opens_begins front quotes opens, inr (o, e, refl))
sorted p front rest shape (a_stray c e n) = inr (c, e, n, refl)

abbrev Same : List ℕ → List ℕ → Shape → List ℕ → List ℕ → Shape → Type 0
Same f r s g t u = (f ≡ g) × (r ≡ t) × (s ≡ u)

same_word_shape : (front : List ℕ) (s t : Shape) → WordShape front s → WordShape front t → s ≡ t
same_word_shape front s t (inl h) (inl i) = h.1 ∙ sym i.1
same_word_shape front s t (inl h) (inr i) = let (k, e, f) = i in absurd (h.0 (k, e))
same_word_shape front s t (inr h) (inl i) = let (k, e, f) = h in absurd (i.0 (k, e))
same_word_shape front s t (inr h) (inr i) =
    let (k, e, f) = h in
    let (l, d, g) = i in
    let same : k ≡ l = same_keyword k l (sym e ∙ d) in
    f ∙ ap (λ (k : Keyword). shapes.Whole (forms.Key k)) same ∙ sym g

same_number_shape : (front : List ℕ) (s t : Shape) → NumberShape front s → NumberShape front t → s ≡ t
same_number_shape front s t (inl h) (inl i) = h.1 ∙ sym i.1
same_number_shape front s t (inl h) (inr i) = absurd (omega (arith, h.0, i.0))
same_number_shape front s t (inr h) (inl i) = absurd (omega (arith, h.0, i.0))
same_number_shape front s t (inr h) (inr i) = h.1 ∙ sym i.1

same_mark_shape : (front : List ℕ) (s t : Shape) → MarkShape front s → MarkShape front t → s ≡ t
same_mark_shape front s t h i =
    let (m, e, f) = h in
    let (n, d, g) = i in
    let same : m ≡ n = same_mark m n (sym e ∙ d) in
    f ∙ ap (λ (m : Mark). shapes.Whole (forms.Mark m)) same ∙ sym g

same_parts_shape : (p : Place) (quotes : Quotes) (parts : List Part) (s t : Shape) → PartsShape p quotes parts s → PartsShape p quotes parts t → s ≡ t
same_parts_shape p quotes parts s t (inl h) (inl i) =
    let (v, e, f) = h in
    let (w, d, g) = i in
    f ∙ ap (λ (v : List ℕ). shapes.Whole (forms.Str (encode_utf8_all v))) (same_value parts v w e d) ∙ sym g
same_parts_shape p quotes parts s t (inl h) (inr i) =
    let (v, e, f) = h in
    let (good, more, w, d, st, g) = i in
    absurd (no_value good more v (subst (λ (ps : List Part). StandsFor ps v) d e))
same_parts_shape p quotes parts s t (inr h) (inl i) =
    let (v, e, f) = i in
    let (good, more, w, d, st, g) = h in
    absurd (no_value good more v (subst (λ (ps : List Part). StandsFor ps v) d e))
same_parts_shape p quotes parts s t (inr h) (inr i) =
    let (good, more, v, e, st, f) = h in
    let (well, other, w, d, su, g) = i in
    let same : good ≡ well = same_good good well more other v w (sym e ∙ d) st su in
    f ∙ ap (λ (ps : List Part). shapes.BadEscape (after p (quote_text quotes ++ characters_of ps))) same ∙ sym g

-- two longest fronts of a form have one shape, if their form determines it
same_by_form : (Has : List ℕ → Type 0) (Shaped : List ℕ → Shape → Type 0) → ((f : List ℕ) (s t : Shape) → Shaped f s → Shaped f t → s ≡ t) → (f r g t : List ℕ) (s u : Shape) → f ++ r ≡ g ++ t → Longest Has f r → Longest Has g t → Shaped f s → Shaped g u → Same f r s g t u
same_by_form Has Shaped one f r g t s u e l m h i =
    let (k, n) = same_longest Has f g r t e l m in
    (k, n, one g s u (subst (λ (x : List ℕ). Shaped x s) k h) i)

same_front : (f r g t : List ℕ) → f ++ r ≡ g ++ t → r ≡ t → f ≡ g
same_front f r g t e m = append_cancel_right f g t (subst (λ (x : List ℕ). f ++ x ≡ g ++ t) m e)

same_string_piece : (p : Place) (f r g t : List ℕ) (s u : Shape) → f ++ r ≡ g ++ t → StringPiece p f r s → StringPiece p g t u → Same f r s g t u
same_string_piece p f r g t s u e (inl h) (inl i) =
    let (quotes, parts, spells, shaped) = h in
    let (kind, pieces, other, formed) = i in
    let (k, l, m) = same_string (f ++ r) quotes kind parts pieces r t spells (subst (λ (cs : List ℕ). SpellsString cs kind pieces t) (sym e) other) in
    let formed' : PartsShape p quotes parts u = subst (λ (ps : List Part). PartsShape p quotes ps u) (sym l) (subst (λ (q : Quotes). PartsShape p q pieces u) (sym k) formed) in
    (same_front f r g t e m, m, same_parts_shape p quotes parts s u shaped formed')
same_string_piece p f r g t s u e (inl h) (inr i) =
    let (quotes, parts, spells, shaped) = h in
    absurd (i.0.1 quotes parts r (subst (λ (cs : List ℕ). SpellsString cs quotes parts r) (e ∙ without_rest g t i.1) spells))
same_string_piece p f r g t s u e (inr h) (inl i) =
    let (quotes, parts, spells, shaped) = i in
    absurd (h.0.1 quotes parts t (subst (λ (cs : List ℕ). SpellsString cs quotes parts t) (sym e ∙ without_rest f r h.1) spells))
same_string_piece p f r g t s u e (inr h) (inr i) =
    let m : r ≡ t = h.1 ∙ sym i.1 in
    (same_front f r g t e m, m, h.2 ∙ sym i.2)

same_one : (c : ℕ) (x : Shape) (f r g t : List ℕ) (s u : Shape) → f ++ r ≡ g ++ t → f ≡ c ∷ [] → s ≡ x → g ≡ c ∷ [] → u ≡ x → Same f r s g t u
same_one c x f r g t s u e h i j k =
    let same : f ≡ g = h ∙ sym j in
    (same, append_cancel_left g r t (subst (λ (y : List ℕ). y ++ r ≡ g ++ t) same e), i ∙ sym k)

same_begun : (k : Beginning) (p : Place) (f r g t : List ℕ) (s u : Shape) → f ++ r ≡ g ++ t → Begun k p f r s → Begun k p g t u → Same f r s g t u
same_begun word.Word p f r g t s u e h i = same_by_form IsWord WordShape same_word_shape f r g t s u e h.0 i.0 h.1 i.1
same_begun word.Number p f r g t s u e h i = same_by_form IsNumber NumberShape same_number_shape f r g t s u e h.0 i.0 h.1 i.1
same_begun word.Comment p f r g t s u e h i = same_by_form IsComment (λ f s. s ≡ shapes.Comment) (λ f s t h i. h ∙ sym i) f r g t s u e h.0 i.0 h.1 i.1
same_begun word.Quoted p f r g t s u e h i = same_string_piece p f r g t s u e h i
same_begun word.Space p f r g t s u e h i = same_one 32 shapes.Space f r g t s u e h.0 h.1 i.0 i.1
same_begun word.Tab p f r g t s u e h i = same_one 9 shapes.Tab f r g t s u e h.0 h.1 i.0 i.1
same_begun word.LineEnd p f r g t s u e h i = same_one 10 shapes.LineEnd f r g t s u e h.0 h.1 i.0 i.1
same_begun word.Other p f r g t s u e h i = same_by_form IsMark MarkShape same_mark_shape f r g t s u e h.0 i.0 h.1 i.1

same_first : (c d : ℕ) (cs f r : List ℕ) → c ∷ cs ≡ f ++ r → f ≡ d ∷ [] → c ≡ d
same_first c d cs f r e h = let k : c ∷ cs ≡ d ∷ r = e ∙ ap (λ (v : List ℕ). v ++ r) h in cc

-- where a stray character stands, nothing else begins
none_begun : (k : Beginning) (p : Place) (c : ℕ) (cs f r : List ℕ) (s : Shape) → BeginsNone c cs → c ∷ cs ≡ f ++ r → Begun k p f r s → ⊥
none_begun word.Word p c cs f r s n e h = n.no_word f r e h.0.0
none_begun word.Number p c cs f r s n e h = n.no_number f r e h.0.0
none_begun word.Comment p c cs f r s n e h = n.no_comment f r e h.0.0
none_begun word.Quoted p c cs f r s n e (inl h) =
    let (quotes, parts, spells, shaped) = h in
    n.no_string quotes (subst (λ (ds : List ℕ). OpensWith ds quotes) (sym e) spells.1)
none_begun word.Quoted p c cs f r s n e (inr h) =
    let (quotes, opens) = h.0.0 in
    n.no_string quotes (subst (λ (ds : List ℕ). OpensWith ds quotes) (sym (e ∙ without_rest f r h.1)) opens)
none_begun word.Space p c cs f r s n e h = n.no_separator (inl (same_first c 32 cs f r e h.0))
none_begun word.Tab p c cs f r s n e h = n.no_separator (inr (inl (same_first c 9 cs f r e h.0)))
none_begun word.LineEnd p c cs f r s n e h = n.no_separator (inr (inr (same_first c 10 cs f r e h.0)))
none_begun word.Other p c cs f r s n e h = n.no_mark f r e h.0.0

stray_alone : (p : Place) (f r g t : List ℕ) (s u : Shape) → f ++ r ≡ g ++ t → StrayPiece f r s → Sorted p g t u → Same f r s g t u
stray_alone p f r g t s u e h (inl i) =
    let (c, d, n, x) = h in
    let (k, b, y) = i in
    absurd (none_begun k p c r g t u n (sym (ap (λ (v : List ℕ). v ++ r) d) ∙ e) y)
stray_alone p f r g t s u e h (inr i) =
    let (c, d, n, x) = h in
    let (c', d', n', x') = i in
    let k : c ≡ c' = same_first c c' r g t (sym (ap (λ (v : List ℕ). v ++ r) d) ∙ e) d' in
    let l : f ≡ c' ∷ [] = d ∙ ap (λ (v : ℕ). v ∷ []) k in
    same_one c' shapes.Stray f r g t s u e l x d' x'

turned : (f r g t : List ℕ) (s u : Shape) → Same f r s g t u → Same g t u f r s
turned f r g t s u h = (sym h.0, sym h.1, sym h.2)

same_sorted : (p : Place) (f r g t : List ℕ) (s u : Shape) → f ++ r ≡ g ++ t → Sorted p f r s → Sorted p g t u → Same f r s g t u
same_sorted p f r g t s u e (inr h) i = stray_alone p f r g t s u e h i
same_sorted p f r g t s u e (inl h) (inr i) = turned g t f r u s (stray_alone p g t f r u s (sym e) i (inl h))
same_sorted p f r g t s u e (inl h) (inl i) =
    let (k, b, x) = h in
    let (l, c, y) = i in
    let same : l ≡ k = sym c ∙ sym (ap beginning_of e) ∙ b in
    same_begun k p f r g t s u e x (subst (λ (m : Beginning). Begun m p g t u) same y)

-- At the beginning of a text stands one piece.
pub same_piece : (p : Place) (front rest front' rest' : List ℕ) (shape shape' : Shape) → front ++ rest ≡ front' ++ rest' → IsPiece p front rest shape → IsPiece p front' rest' shape' → (front ≡ front') × (rest ≡ rest') × (shape ≡ shape')
same_piece p f r g t s u e h i = same_sorted p f r g t s u e (sorted p f r s h) (sorted p g t u i)

goes_over : (quotes : Quotes) (parts : List Part) (cs rest : List ℕ) → GoesOn quotes cs parts rest → cs ≡ characters_of parts ++ rest
goes_over quotes [] cs rest h = h
goes_over quotes (part ∷ parts) cs rest h =
    let (more, e, n, is, on) = h in
    e ∙ ap (λ (t : List ℕ). part_text part ++ t) (goes_over quotes parts more rest on) ∙ sym (append_assoc (part_text part) (characters_of parts) rest)

string_front : (front rest : List ℕ) (quotes : Quotes) (parts : List Part) → SpellsString (front ++ rest) quotes parts rest → front ≡ quote_text quotes ++ (characters_of parts ++ quote_text quotes)
string_front front rest quotes parts h =
    let (inner, opens, e, on) = h in
    let q : List ℕ = quote_text quotes in
    let ps : List ℕ = characters_of parts in
    let whole : front ++ rest ≡ q ++ (ps ++ (q ++ rest)) = e ∙ ap (λ (t : List ℕ). q ++ t) (goes_over quotes parts inner (q ++ rest) on) in
    let moved : q ++ (ps ++ (q ++ rest)) ≡ (q ++ (ps ++ q)) ++ rest = ap (λ (t : List ℕ). q ++ t) (sym (append_assoc ps q rest)) ∙ sym (append_assoc q (ps ++ q) rest) in
    append_cancel_right front (q ++ (ps ++ q)) rest (whole ∙ moved)

abbrev Filled : List ℕ → Type 0
Filled front = (c : ℕ) × (cs : List ℕ) × (front ≡ c ∷ cs)

unless_empty : (front : List ℕ) → (front ≡ [] → ⊥) → Filled front
unless_empty [] h = absurd (h refl)
unless_empty (c ∷ cs) h = (c, cs, refl)

quote_filled : (quotes : Quotes) (more : List ℕ) → Filled (quote_text quotes ++ more)
quote_filled (Single q) more = (q, more, refl)
quote_filled (Triple q) more = (q, q ∷ q ∷ more, refl)

opens_filled : (cs : List ℕ) (quotes : Quotes) → OpensWith cs quotes → Filled cs
opens_filled cs quotes (opens_triple q i b) = let (rest, e) = b in (q, q ∷ q ∷ rest, e)
opens_filled cs quotes (opens_single q i b n) = let (rest, e) = b in (q, rest, e)

no_test : (test : List ℕ → Bool) (front : List ℕ) → test [] ≡ false → test front ≡ true → front ≡ [] → ⊥
no_test test front e h none = let k : test [] ≡ true = subst (λ (f : List ℕ). test f ≡ true) none h in cc

begun_filled : (k : Beginning) (p : Place) (front rest : List ℕ) (shape : Shape) → Begun k p front rest shape → Filled front
begun_filled word.Word p front rest shape h = unless_empty front (no_test is_word front refl h.0.0)
begun_filled word.Number p front rest shape h = unless_empty front (no_test is_number front refl h.0.0)
begun_filled word.Comment p front rest shape h = let (text, e, t) = h.0.0 in (35, text, e)
begun_filled word.Quoted p front rest shape (inl h) =
    let (quotes, parts, spells, shaped) = h in
    subst Filled (sym (string_front front rest quotes parts spells)) (quote_filled quotes (characters_of parts ++ quote_text quotes))
begun_filled word.Quoted p front rest shape (inr h) = let (quotes, opens) = h.0.0 in opens_filled front quotes opens
begun_filled word.Space p front rest shape h = (32, [], h.0)
begun_filled word.Tab p front rest shape h = (9, [], h.0)
begun_filled word.LineEnd p front rest shape h = (10, [], h.0)
begun_filled word.Other p front rest shape h = let (m, e, f) = h.1 in unless_empty front (λ none. mark_filled m (sym e ∙ none))

sorted_filled : (p : Place) (front rest : List ℕ) (shape : Shape) → Sorted p front rest shape → Filled front
sorted_filled p front rest shape (inl h) = let (k, b, x) = h in begun_filled k p front rest shape x
sorted_filled p front rest shape (inr h) = let (c, e, n, x) = h in (c, [], e)

-- A piece has a character.
pub not_empty : (p : Place) (front rest : List ℕ) (shape : Shape) → IsPiece p front rest shape → (c : ℕ) × (cs : List ℕ) × (front ≡ c ∷ cs)
not_empty p front rest shape h = sorted_filled p front rest shape (sorted p front rest shape h)

characters-append : (good more : List Part) → characters_of (good ++ more) ≡ characters_of good ++ characters_of more
characters-append [] more = refl
characters-append (part ∷ good) more = ap (λ (t : List ℕ). part_text part ++ t) (characters-append good more) ∙ sym (append_assoc (part_text part) (characters_of good) (characters_of more))

later : (p : Place) (f : List ℕ) → Filled f → Precedes p (after p f)
later p f h = let (c, cs, e) = h in subst (λ (g : List ℕ). Precedes p (after p g)) (sym e) (precedes_after cs p c)

-- The place of a backslash that begins no escape lies within its string.
pub escape_inside : (p : Place) (front rest : List ℕ) (q : Place) → IsPiece p front rest (shapes.BadEscape q) → Precedes p q × Precedes q (after p front)
escape_inside p front rest q (a_bad_escape quotes parts more value s v) =
    let u : List ℕ = quote_text quotes in
    let good : List ℕ = characters_of parts in
    let behind : List ℕ = characters_of more in
    let part : characters_of (parts ++ LoneBackslash ∷ more) ++ u ≡ good ++ (92 ∷ behind ++ u) = ap (λ (t : List ℕ). t ++ u) (characters-append parts (LoneBackslash ∷ more)) ∙ append_assoc good (92 ∷ behind) u in
    let whole : front ≡ (u ++ good) ++ (92 ∷ behind ++ u) = string_front front rest quotes (parts ++ LoneBackslash ∷ more) s ∙ ap (λ (t : List ℕ). u ++ t) part ∙ sym (append_assoc u good (92 ∷ behind ++ u)) in
    let end : after p front ≡ after (after p (u ++ good)) (92 ∷ behind ++ u) = ap (after p) whole ∙ after-append (u ++ good) (92 ∷ behind ++ u) p in
    (later p (u ++ good) (quote_filled quotes good), subst (Precedes (after p (u ++ good))) (sym end) (precedes_after (behind ++ u) (after p (u ++ good)) 92))
