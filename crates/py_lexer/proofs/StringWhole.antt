-- Strings from their quotes to their ends.
use Rattle.std.proofs.Common.{ℕ, ◌≡◌, ◌<◌, ◌≤◌, ◌+◌, ◌-◌, refl, sym, ap, ◌∙◌, subst, arith, List, [], ◌∷◌, ◌++◌, length, take, drop, append_assoc, append-nil, length-append, length-drop, encode_utf8_all}
use Rattle.std.specs.Char.{encode_utf8}
use Rattle.std.proofs.Math.Seq.{take-append_seam, drop-append_seam}
use Rattle.py_base.specs.declared.Place.{Place}
use Rattle.py_tokens.specs.declared.TokenForm.TheVariants as forms
use Rattle.py_tokens.specs.declared.Shape.{Shape}
use Rattle.py_tokens.specs.declared.Shape.TheVariants as shapes
use Rattle.py_tokens.specs.PlacedText.{after}
use Rattle.py_tokens.specs.StringForms.{Quotes, Single, Triple, quote_text, BeginsWith, OpensWith, opens_triple, opens_single, Part, Plain, Escape, LoneBackslash, part_text, IsEscape, backslash, apostrophe, quotation, line_feed, tabulator, GoesOn, SpellsString, IsOpenString, StandsFor, characters_of}
use Rattle.py_tokens.specs.TextPieces.{IsPiece, a_string, a_bad_escape, an_open_string}
use Rattle.py_lexer.specs.declared.strings.Reading.TheVariants as readings
use Rattle.py_lexer.specs.declared.strings.Stop.TheVariants as stops
use Rattle.py_lexer.specs.StringReading.{StandsPart, StandsNext, HasRead, NeverCloses}
use Rattle.py_lexer.specs.PieceForms.{StandsAt}

goes_append : (quotes : Quotes) (cs : List ℕ) (parts : List Part) (mid : List ℕ) (more : List Part) (rest : List ℕ) → GoesOn quotes cs parts mid → GoesOn quotes mid more rest → GoesOn quotes cs (parts ++ more) rest
goes_append quotes cs [] mid more rest g h = subst (λ (x : List ℕ). GoesOn quotes x more rest) (sym g) h
goes_append quotes cs (part ∷ parts) mid more rest (left, e, k, p, g) h = (left, e, k, p, goes_append quotes left parts mid more rest g h)

goes_text : (quotes : Quotes) (cs : List ℕ) (parts : List Part) (rest : List ℕ) → GoesOn quotes cs parts rest → cs ≡ characters_of parts ++ rest
goes_text quotes cs [] rest g = g
goes_text quotes cs (part ∷ parts) rest (left, e, k, p, g) = e ∙ ap (λ x. part_text part ++ x) (goes_text quotes left parts rest g) ∙ sym (append_assoc (part_text part) (characters_of parts) rest)

stands_append : (parts more : List Part) (value other : List ℕ) → StandsFor parts value → StandsFor more other → StandsFor (parts ++ more) (value ++ other)
stands_append [] more value other s t = subst (λ (x : List ℕ). StandsFor more (x ++ other)) (sym s) t
stands_append (Plain c ∷ parts) more value other (left, e, s) t = (left ++ other, ap (λ x. x ++ other) e, stands_append parts more left other s t)
stands_append (Escape c v ∷ parts) more value other (left, e, s) t = (left ++ other, ap (λ x. x ++ other) e, stands_append parts more left other s t)
stands_append (LoneBackslash ∷ parts) more value other s t = absurd s

encode_more : (value : List ℕ) (c : ℕ) → encode_utf8_all (value ++ c ∷ []) ≡ encode_utf8_all value ++ encode_utf8 c
encode_more [] c = append-nil (encode_utf8 c)
encode_more (v ∷ value) c = ap (λ x. encode_utf8 v ++ x) (encode_more value c) ∙ sym (append_assoc (encode_utf8 v) (encode_utf8_all value) (encode_utf8 c))

drop_front : (front rest : List ℕ) (n : ℕ) → n ≡ length front → drop n (front ++ rest) ≡ rest
drop_front front rest n e = ap (λ k. drop k (front ++ rest)) e ∙ drop-append_seam front rest

take_front : (front rest : List ℕ) (n : ℕ) → n ≡ length front → take n (front ++ rest) ≡ front
take_front front rest n e = ap (λ k. take k (front ++ rest)) e ∙ take-append_seam front rest

pub read_nothing : (quotes : Quotes) (cs : List ℕ) → HasRead quotes cs [] cs
read_nothing quotes cs = ([], [], refl, refl, refl)

pub part_fits : (quotes : Quotes) (cs : List ℕ) (n value : ℕ) → StandsNext quotes cs (readings.Part n value) → (0 < n) × (n ≤ length cs)
part_fits quotes cs n value (Plain c, more, (e, k, p), s, l) = let w : length cs ≡ length more + 1 = ap length e ∙ omega arith in (omega arith, omega arith)
part_fits quotes cs n value (Escape c v, more, (e, k, p), s, l) = let w : length cs ≡ length more + 2 = ap length e ∙ omega arith in (omega arith, omega arith)
part_fits quotes cs n value (LoneBackslash, more, (e, k, p), s, l) = let w : length cs ≡ length more + 1 = ap length e ∙ omega arith in (omega arith, omega arith)

pub read_more : (quotes : Quotes) (cs bytes rest : List ℕ) (n value : ℕ) → HasRead quotes cs bytes rest → StandsNext quotes rest (readings.Part n value) → HasRead quotes cs (bytes ++ encode_utf8 value) (drop n rest)
read_more quotes cs bytes rest n value (parts, all, g, s, e) (part, more, (f, k, p), t, l) =
    let d : drop n rest ≡ more = ap (λ x. drop n x) f ∙ drop_front (part_text part) more n l in
    let h : GoesOn quotes rest (part ∷ []) (drop n rest) = (more, f, k, p, sym d) in (
      parts ++ part ∷ [],
      all ++ value ∷ [],
      goes_append quotes cs parts rest (part ∷ []) (drop n rest) g h,
      stands_append parts (part ∷ []) all (value ∷ []) s t,
      ap (λ x. x ++ encode_utf8 value) e ∙ sym (encode_more all value),
    )

-- each backslash stands for one thing
one_escape : (c v w : ℕ) → IsEscape c v → IsEscape c w → v ≡ w
one_escape c v w backslash backslash = refl
one_escape c v w apostrophe apostrophe = refl
one_escape c v w quotation quotation = refl
one_escape c v w line_feed line_feed = refl
one_escape c v w tabulator tabulator = refl

one_part : (quotes : Quotes) (cs : List ℕ) (a b : Part) (more other : List ℕ) → StandsPart quotes cs a more → StandsPart quotes cs b other → (a ≡ b) × (more ≡ other)
one_part quotes cs (Plain c) (Plain d) more other (e, _, p) (f, _, q) = let k : c ∷ more ≡ d ∷ other = sym e ∙ f in let i : c ≡ d = cc in (ap (λ x. Plain x) i, cc)
one_part quotes cs (Plain c) (Escape d w) more other (e, _, p) (f, _, q) = let k : c ∷ more ≡ 92 ∷ d ∷ other = sym e ∙ f in absurd (p.0 (cc))
one_part quotes cs (Plain c) LoneBackslash more other (e, _, p) (f, _, q) = let k : c ∷ more ≡ 92 ∷ other = sym e ∙ f in absurd (p.0 (cc))
one_part quotes cs (Escape c v) (Plain d) more other (e, _, p) (f, _, q) = let k : 92 ∷ c ∷ more ≡ d ∷ other = sym e ∙ f in absurd (q.0 (cc))
one_part quotes cs (Escape c v) (Escape d w) more other (e, _, p) (f, _, q) =
    let k : 92 ∷ c ∷ more ≡ 92 ∷ d ∷ other = sym e ∙ f in
    let i : d ≡ c = cc in
    let j : v ≡ w = one_escape c v w p (subst (λ (x : ℕ). IsEscape x w) i q) in
    (ap (λ x. Escape x v) (sym i) ∙ ap (λ x. Escape d x) j, cc)
one_part quotes cs (Escape c v) LoneBackslash more other (e, _, p) (f, _, q) = let k : 92 ∷ c ∷ more ≡ 92 ∷ other = sym e ∙ f in let l : other ≡ c ∷ more = cc in absurd (q c v p (more, l))
one_part quotes cs LoneBackslash (Plain d) more other (e, _, p) (f, _, q) = let k : 92 ∷ more ≡ d ∷ other = sym e ∙ f in absurd (q.0 (cc))
one_part quotes cs LoneBackslash (Escape d w) more other (e, _, p) (f, _, q) = let k : 92 ∷ more ≡ 92 ∷ d ∷ other = sym e ∙ f in let l : more ≡ d ∷ other = cc in absurd (p d w q (other, l))
one_part quotes cs LoneBackslash LoneBackslash more other (e, _, p) (f, _, q) = let k : 92 ∷ more ≡ 92 ∷ other = sym e ∙ f in (refl, cc)

-- where no part and no closing quotes stand, none are further on
never_here : (quotes : Quotes) (cs : List ℕ) → StandsNext quotes cs (readings.Stop stops.Unclosed) → NeverCloses quotes cs
never_here quotes cs (k, n) [] rest g = k (rest, g)
never_here quotes cs (k, n) (part ∷ parts) rest (left, e, b, p, g) = n part left (e, b, p)

never_before : (quotes : Quotes) (cs : List ℕ) (parts : List Part) (mid : List ℕ) → GoesOn quotes cs parts mid → NeverCloses quotes mid → NeverCloses quotes cs
never_before quotes cs [] mid g h others rest i = subst (λ (x : List ℕ). NeverCloses quotes x) (sym g) h others rest i
never_before quotes cs (part ∷ parts) mid (left, e, k, p, g) h [] rest i = k (rest, i)
never_before quotes cs (part ∷ parts) mid (left, e, k, p, g) h (other ∷ others) rest (left', e', k', p', g') =
    never_before quotes left parts mid g h others rest (subst (λ (x : List ℕ). GoesOn quotes x others (quote_text quotes ++ rest)) (sym (one_part quotes cs part other left left' (e, k, p) (e', k', p')).1) g')

pub never_from : (quotes : Quotes) (cs : List ℕ) (parts : List Part) (mid : List ℕ) → GoesOn quotes cs parts mid → StandsNext quotes mid (readings.Stop stops.Unclosed) → NeverCloses quotes cs
never_from quotes cs parts mid g h = never_before quotes cs parts mid g (never_here quotes mid h)

pub skips_lone : (quotes : Quotes) (cs : List ℕ) (parts : List Part) (mid : List ℕ) → GoesOn quotes cs parts mid → StandsNext quotes mid (readings.Stop stops.LoneBackslash) → GoesOn quotes cs (parts ++ LoneBackslash ∷ []) (drop 1 mid)
skips_lone quotes cs parts mid g (more, (e, k, p)) = goes_append quotes cs parts mid (LoneBackslash ∷ []) (drop 1 mid) g (more, e, k, p, sym (ap (λ x. drop 1 x) e))

pub skips_part : (quotes : Quotes) (cs : List ℕ) (parts : List Part) (mid : List ℕ) (n value : ℕ) → GoesOn quotes cs parts mid → StandsNext quotes mid (readings.Part n value) → (more : List Part) × GoesOn quotes cs more (drop n mid)
skips_part quotes cs parts mid n value g (part, more, (e, k, p), s, l) = (parts ++ part ∷ [], goes_append quotes cs parts mid (part ∷ []) (drop n mid) g (more, e, k, p, sym (ap (λ x. drop n x) e ∙ drop_front (part_text part) more n l)))

one_opening : (cs : List ℕ) (a b : Quotes) → OpensWith cs a → OpensWith cs b → a ≡ b
one_opening cs (Triple a) (Triple b) (opens_triple p i (r, e)) (opens_triple q j (s, f)) = let k : p ∷ p ∷ p ∷ r ≡ q ∷ q ∷ q ∷ s = sym e ∙ f in let l : p ≡ q = cc in ap (λ x. Triple x) l
one_opening cs (Triple a) (Single b) (opens_triple p i (r, e)) (opens_single q j (s, f) n) = let k : p ∷ p ∷ p ∷ r ≡ q ∷ s = sym e ∙ f in let l : p ≡ q = cc in absurd (n (subst (λ (x : ℕ). BeginsWith cs (x ∷ x ∷ x ∷ [])) l (r, e)))
one_opening cs (Single a) (Triple b) (opens_single p i (r, e) n) (opens_triple q j (s, f)) = let k : q ∷ q ∷ q ∷ s ≡ p ∷ r = sym f ∙ e in let l : q ≡ p = cc in absurd (n (subst (λ (x : ℕ). BeginsWith cs (x ∷ x ∷ x ∷ [])) l (s, f)))
one_opening cs (Single a) (Single b) (opens_single p i (r, e) n) (opens_single q j (s, f) m) = let k : p ∷ r ≡ q ∷ s = sym e ∙ f in let l : p ≡ q = cc in ap (λ x. Single x) l

same_behind : (front a b : List ℕ) → front ++ a ≡ front ++ b → a ≡ b
same_behind [] a b e = e
same_behind (x ∷ front) a b e = same_behind front a b (cc)

open_string : (quotes : Quotes) (cs inner : List ℕ) → OpensWith cs quotes → cs ≡ quote_text quotes ++ inner → NeverCloses quotes inner → IsOpenString cs
open_string quotes cs inner o e k = (
  (quotes, o),
  λ other parts rest (left, o', e', g).
      let q : other ≡ quotes = one_opening cs other quotes o' o in
      let f : cs ≡ quote_text quotes ++ left = subst (λ (x : Quotes). cs ≡ quote_text x ++ left) q e' in
      let i : left ≡ inner = same_behind (quote_text quotes) left inner (sym f ∙ e) in
      k parts rest (subst (λ (x : List ℕ). GoesOn quotes x parts (quote_text quotes ++ rest)) i (subst (λ (x : Quotes). GoesOn x left parts (quote_text x ++ rest)) q g)),
)

opens_longer : (quotes : Quotes) (cs : List ℕ) → OpensWith cs quotes → 0 < length cs
opens_longer (Triple a) cs (opens_triple q i (r, e)) = let w : length cs ≡ length r + 3 = ap length e ∙ omega arith in omega arith
opens_longer (Single a) cs (opens_single q i (r, e) n) = let w : length cs ≡ length r + 1 = ap length e ∙ omega arith in omega arith

all_of : (cs : List ℕ) → take (length cs) cs ≡ cs
all_of cs = ap (λ x. take (length cs) x) (sym (append-nil cs)) ∙ take-append_seam cs []

none_of : (cs : List ℕ) → drop (length cs) cs ≡ []
none_of cs = ap (λ x. drop (length cs) x) (sym (append-nil cs)) ∙ drop-append_seam cs []

pub open_piece : (quotes : Quotes) (p : Place) (cs inner : List ℕ) → OpensWith cs quotes → cs ≡ quote_text quotes ++ inner → NeverCloses quotes inner → StandsAt p cs (length cs) shapes.Unclosed
open_piece quotes p cs inner o e k = (opens_longer quotes cs o, omega arith, an_open_string (subst IsOpenString (sym (all_of cs)) (open_string quotes cs inner o e k)) (none_of cs))

-- a piece whose front is what stands before the rest
pub piece_before : (p : Place) (cs front rest : List ℕ) (shape : Shape) (n : ℕ) → 0 < length front → cs ≡ front ++ rest → n ≡ length front → IsPiece p front rest shape → StandsAt p cs n shape
piece_before p cs front rest shape n w e l h = (
  omega arith,
  (let k : length cs ≡ length front + length rest = ap length e ∙ length-append front rest in omega arith),
  subst (λ (x : List ℕ). IsPiece p x (drop n cs) shape) (sym (ap (λ x. take n x) e ∙ take_front front rest n l)) (subst (λ (x : List ℕ). IsPiece p front x shape) (sym (ap (λ x. drop n x) e ∙ drop_front front rest n l)) h),
)

quotes_longer : (quotes : Quotes) (cs : List ℕ) → 0 < length (quote_text quotes ++ cs)
quotes_longer (Single q) cs = omega arith
quotes_longer (Triple q) cs = omega arith

-- the characters of a string from quote to quote
abbrev spelled : Quotes → List Part → List ℕ
spelled quotes parts = quote_text quotes ++ (characters_of parts ++ quote_text quotes)

spelled_text : (quotes : Quotes) (cs inner : List ℕ) (parts : List Part) (rest : List ℕ) → cs ≡ quote_text quotes ++ inner → GoesOn quotes inner parts (quote_text quotes ++ rest) → cs ≡ spelled quotes parts ++ rest
spelled_text quotes cs inner parts rest e g =
    e ∙ ap (λ x. quote_text quotes ++ x) (goes_text quotes inner parts (quote_text quotes ++ rest) g ∙ sym (append_assoc (characters_of parts) (quote_text quotes) rest)) ∙ sym (append_assoc (quote_text quotes) (characters_of parts ++ quote_text quotes) rest)

quoted_behind : (quotes : Quotes) (cs inner : List ℕ) (parts : List Part) (mid : List ℕ) → cs ≡ quote_text quotes ++ inner → GoesOn quotes inner parts mid → cs ≡ (quote_text quotes ++ characters_of parts) ++ mid
quoted_behind quotes cs inner parts mid e g = e ∙ ap (λ x. quote_text quotes ++ x) (goes_text quotes inner parts mid g) ∙ sym (append_assoc (quote_text quotes) (characters_of parts) mid)

length_before : (cs front rest : List ℕ) → cs ≡ front ++ rest → length cs - length rest ≡ length front
length_before cs front rest e = let k : length cs ≡ length front + length rest = ap length e ∙ length-append front rest in omega arith

spells : (quotes : Quotes) (cs inner : List ℕ) (parts : List Part) (rest : List ℕ) → OpensWith cs quotes → cs ≡ quote_text quotes ++ inner → GoesOn quotes inner parts (quote_text quotes ++ rest) → SpellsString (spelled quotes parts ++ rest) quotes parts rest
spells quotes cs inner parts rest o e g =
    let k : cs ≡ spelled quotes parts ++ rest = spelled_text quotes cs inner parts rest e g in
    (inner, subst (λ (x : List ℕ). OpensWith x quotes) k o, sym k ∙ e, g)

string_here : (quotes : Quotes) (p : Place) (cs inner rest bytes : List ℕ) (parts : List Part) (value : List ℕ) (n : ℕ) → OpensWith cs quotes → cs ≡ quote_text quotes ++ inner → GoesOn quotes inner parts (quote_text quotes ++ rest) → StandsFor parts value → bytes ≡ encode_utf8_all value → n ≡ length cs - length rest → StandsAt p cs n (shapes.Whole (forms.Str bytes))
string_here quotes p cs inner rest bytes parts value n o e g s b l =
    let k : cs ≡ spelled quotes parts ++ rest = spelled_text quotes cs inner parts rest e g in
    piece_before p cs (spelled quotes parts) rest (shapes.Whole (forms.Str bytes)) n (quotes_longer quotes (characters_of parts ++ quote_text quotes)) k (l ∙ length_before cs (spelled quotes parts) rest k) (subst (λ (x : List ℕ). IsPiece p (spelled quotes parts) rest (shapes.Whole (forms.Str x))) (sym b) (a_string quotes parts value (spells quotes cs inner parts rest o e g) s))

pub string_piece : (quotes : Quotes) (p : Place) (cs inner bytes mid : List ℕ) (n : ℕ) → OpensWith cs quotes → cs ≡ quote_text quotes ++ inner → HasRead quotes inner bytes mid → BeginsWith mid (quote_text quotes) → n ≡ (length cs - length mid) + length (quote_text quotes) → StandsAt p cs n (shapes.Whole (forms.Str bytes))
string_piece quotes p cs inner bytes mid n o e (parts, value, g, s, b) (rest, f) l =
    let k : length mid ≡ length (quote_text quotes) + length rest = ap length f ∙ length-append (quote_text quotes) rest in
    let w : cs ≡ (quote_text quotes ++ characters_of parts) ++ mid = quoted_behind quotes cs inner parts mid e g in
    let i : length cs ≡ length (quote_text quotes ++ characters_of parts) + length mid = ap length w ∙ length-append (quote_text quotes ++ characters_of parts) mid in
    string_here quotes p cs inner rest bytes parts value n o e (subst (λ (x : List ℕ). GoesOn quotes inner parts x) f g) s b (omega arith)

bad_here : (quotes : Quotes) (p q : Place) (cs inner rest : List ℕ) (parts more : List Part) (value : List ℕ) (n : ℕ) → OpensWith cs quotes → cs ≡ quote_text quotes ++ inner → GoesOn quotes inner (parts ++ LoneBackslash ∷ more) (quote_text quotes ++ rest) → StandsFor parts value → q ≡ after p (quote_text quotes ++ characters_of parts) → n ≡ length cs - length rest → StandsAt p cs n (shapes.BadEscape q)
bad_here quotes p q cs inner rest parts more value n o e g s f l =
    let k : cs ≡ spelled quotes (parts ++ LoneBackslash ∷ more) ++ rest = spelled_text quotes cs inner (parts ++ LoneBackslash ∷ more) rest e g in
    piece_before p cs (spelled quotes (parts ++ LoneBackslash ∷ more)) rest (shapes.BadEscape q) n (quotes_longer quotes (characters_of (parts ++ LoneBackslash ∷ more) ++ quote_text quotes)) k (l ∙ length_before cs (spelled quotes (parts ++ LoneBackslash ∷ more)) rest k) (subst (λ (x : Place). IsPiece p (spelled quotes (parts ++ LoneBackslash ∷ more)) rest (shapes.BadEscape x)) (sym f) (a_bad_escape quotes parts more value (spells quotes cs inner (parts ++ LoneBackslash ∷ more) rest o e g) s))

lone_goes_on : (quotes : Quotes) (mid rest : List ℕ) (more : List Part) → StandsNext quotes mid (readings.Stop stops.LoneBackslash) → GoesOn quotes (drop 1 mid) more rest → GoesOn quotes mid (LoneBackslash ∷ more) rest
lone_goes_on quotes mid rest more (left, (e, k, p)) g = (left, e, k, p, subst (λ (x : List ℕ). GoesOn quotes x more rest) (ap (λ x. drop 1 x) e) g)

pub bad_piece : (quotes : Quotes) (p q : Place) (cs inner bytes mid rest : List ℕ) (more : List Part) (n : ℕ) → OpensWith cs quotes → cs ≡ quote_text quotes ++ inner → HasRead quotes inner bytes mid → StandsNext quotes mid (readings.Stop stops.LoneBackslash) → GoesOn quotes (drop 1 mid) more (quote_text quotes ++ rest) → q ≡ after p (take (length cs - length mid) cs) → n ≡ length cs - length rest → StandsAt p cs n (shapes.BadEscape q)
bad_piece quotes p q cs inner bytes mid rest more n o e (parts, value, g, s, b) h i f l =
    let w : cs ≡ (quote_text quotes ++ characters_of parts) ++ mid = quoted_behind quotes cs inner parts mid e g in
    let t : take (length cs - length mid) cs ≡ quote_text quotes ++ characters_of parts = ap (λ x. take (length cs - length mid) x) w ∙ take_front (quote_text quotes ++ characters_of parts) mid (length cs - length mid) (length_before cs (quote_text quotes ++ characters_of parts) mid w) in
    bad_here quotes p q cs inner rest parts more value n o e (goes_append quotes inner parts mid (LoneBackslash ∷ more) (quote_text quotes ++ rest) g (lone_goes_on quotes mid (quote_text quotes ++ rest) more h i)) s (f ∙ ap (λ x. after p x) t) l

pub never_behind_read : (quotes : Quotes) (inner bytes mid : List ℕ) → HasRead quotes inner bytes mid → StandsNext quotes mid (readings.Stop stops.Unclosed) → NeverCloses quotes inner
never_behind_read quotes inner bytes mid (parts, value, g, s, b) h = never_from quotes inner parts mid g h

pub never_behind_lone : (quotes : Quotes) (inner bytes mid : List ℕ) → HasRead quotes inner bytes mid → StandsNext quotes mid (readings.Stop stops.LoneBackslash) → NeverCloses quotes (drop 1 mid) → NeverCloses quotes inner
never_behind_lone quotes inner bytes mid (parts, value, g, s, b) h k = never_before quotes inner (parts ++ LoneBackslash ∷ []) (drop 1 mid) (skips_lone quotes inner parts mid g h) k

-- what is behind the opening quotes
pub opened : (quotes : Quotes) (cs : List ℕ) → OpensWith cs quotes → cs ≡ quote_text quotes ++ drop (length (quote_text quotes)) cs
opened (Triple a) cs (opens_triple q i (r, e)) = subst (λ (x : List ℕ). x ≡ q ∷ q ∷ q ∷ drop 3 x) (sym e) refl
opened (Single a) cs (opens_single q i (r, e) n) = subst (λ (x : List ℕ). x ≡ q ∷ drop 1 x) (sym e) refl

pub quotes_fit : (quotes : Quotes) (cs : List ℕ) → OpensWith cs quotes → length (quote_text quotes) ≤ length cs
quotes_fit (Triple a) cs (opens_triple q i (r, e)) = let w : length cs ≡ length r + 3 = ap length e ∙ omega arith in omega arith
quotes_fit (Single a) cs (opens_single q i (r, e) n) = let w : length cs ≡ length r + 1 = ap length e ∙ omega arith in omega arith

pub read_shorter : (quotes : Quotes) (inner bytes mid : List ℕ) → HasRead quotes inner bytes mid → length mid ≤ length inner
read_shorter quotes inner bytes mid (parts, value, g, s, b) = let k : length inner ≡ length (characters_of parts) + length mid = ap length (goes_text quotes inner parts mid g) ∙ length-append (characters_of parts) mid in omega arith

pub inner_is : (quotes : Quotes) (cs inner : List ℕ) (n : ℕ) → OpensWith cs quotes → n ≡ length (quote_text quotes) → inner ≡ drop n cs → cs ≡ quote_text quotes ++ inner
inner_is quotes cs inner n o l e = opened quotes cs o ∙ ap (λ x. quote_text quotes ++ x) (sym (ap (λ k. drop k cs) l) ∙ sym e)

inner_shorter : (quotes : Quotes) (cs inner : List ℕ) → cs ≡ quote_text quotes ++ inner → length inner ≤ length cs
inner_shorter quotes cs inner e = let k : length cs ≡ length (quote_text quotes) + length inner = ap length e ∙ length-append (quote_text quotes) inner in omega arith

pub left_shorter : (quotes : Quotes) (cs inner bytes mid : List ℕ) → cs ≡ quote_text quotes ++ inner → HasRead quotes inner bytes mid → length mid ≤ length cs
left_shorter quotes cs inner bytes mid e h = let i = inner_shorter quotes cs inner e in let k = read_shorter quotes inner bytes mid h in omega arith

goes_shorter : (quotes : Quotes) (cs : List ℕ) (parts : List Part) (rest : List ℕ) → GoesOn quotes cs parts (quote_text quotes ++ rest) → length rest ≤ length cs
goes_shorter quotes cs parts rest g =
    let k : length cs ≡ length (characters_of parts) + length (quote_text quotes ++ rest) = ap length (goes_text quotes cs parts (quote_text quotes ++ rest) g) ∙ length-append (characters_of parts) (quote_text quotes ++ rest) in
    let l = length-append (quote_text quotes) rest in
    omega arith

pub behind_shorter : (quotes : Quotes) (cs inner bytes mid rest : List ℕ) (parts : List Part) → cs ≡ quote_text quotes ++ inner → HasRead quotes inner bytes mid → GoesOn quotes (drop 1 mid) parts (quote_text quotes ++ rest) → length rest ≤ length cs
behind_shorter quotes cs inner bytes mid rest parts e h g =
    let i = left_shorter quotes cs inner bytes mid e h in
    let k = goes_shorter quotes (drop 1 mid) parts rest g in
    let l = length-drop 1 mid in
    omega arith
