-- A string is in front of some characters, or no quotes are.
use Rattle.std.proofs.Common.{ℕ, zero, suc, ◌≡◌, ◌<◌, ◌-◌, ◌⊎◌, inl, inr, ⊎_elim, ◌+◌, arith, refl, ap, ◌∙◌, subst, List, [], ◌∷◌, ◌++◌, length, take, drop, length-drop}
use Rattle.std.specs.Char.{encode_utf8}
use Rattle.std.proofs.Math.Decide.{ℕ_discrete}
use Rattle.py_base.specs.declared.Place.{Place}
use Rattle.py_tokens.specs.declared.TokenForm.TheVariants as forms
use Rattle.py_tokens.specs.declared.Shape.TheVariants as shapes
use Rattle.py_tokens.specs.PlacedText.{after}
use Rattle.py_tokens.specs.StringForms.{Quotes, Single, Triple, quote_text, BeginsWith, IsQuote, OpensWith, Part, LoneBackslash, FitsLine, IsEscape, backslash, apostrophe, quotation, line_feed, tabulator, GoesOn}
use Rattle.py_lexer.specs.declared.strings.Reading.{Reading}
use Rattle.py_lexer.specs.declared.strings.Reading.TheVariants as readings
use Rattle.py_lexer.specs.declared.strings.Stop.{Stop}
use Rattle.py_lexer.specs.declared.strings.Stop.TheVariants as stops
use Rattle.py_lexer.specs.StringReading.{StandsNext, StandsBehindBackslash, HasRead, NeverCloses}
use Rattle.py_lexer.proofs.StringParts.{nothing_next, plain_next, line_end_next, backslash_next, escape_behind, lone_behind, lone_at_end, escapes_as, no_escape, opens_with_three, opens_with_one, opens_not}
use Rattle.py_lexer.proofs.StringWhole.{read_nothing, part_fits, read_more, never_from, skips_lone, skips_part, open_piece, string_piece, bad_piece, never_behind_read, never_behind_lone, opened}
use Rattle.py_lexer.proofs.EachWord.{HasPiece, begins_or_not}

quote_by : (c : ℕ) → Dec (c ≡ 39) → Dec (c ≡ 34) → Dec (IsQuote c)
quote_by c (yes e) d = yes (inl e)
quote_by c (no e) (yes f) = yes (inr f)
quote_by c (no e) (no f) = no (⊎_elim e f)

opening_by : (c : ℕ) (cs : List ℕ) → Dec (IsQuote c) → Dec (BeginsWith cs (c ∷ c ∷ [])) → ((quotes : Quotes) × OpensWith (c ∷ cs) quotes) ⊎ ((quotes : Quotes) → ¬ OpensWith (c ∷ cs) quotes)
opening_by c cs (yes q) (yes b) = inl (Triple c, opens_with_three (c ∷ cs) cs c refl q b)
opening_by c cs (yes q) (no b) = inl (Single c, opens_with_one (c ∷ cs) cs c refl q b)
opening_by c cs (no q) d = inr (opens_not (c ∷ cs) cs c refl q)

-- what a character behind a backslash stands for, if it stands for one
abbrev EscapeOrNot : ℕ → Type 0
EscapeOrNot c = ((v : ℕ) × IsEscape c v) ⊎ ((v : ℕ) → ¬ IsEscape c v)

escape_by : (c : ℕ) → Dec (c ≡ 92) → Dec (c ≡ 39) → Dec (c ≡ 34) → Dec (c ≡ 110) → Dec (c ≡ 116) → EscapeOrNot c
escape_by c (yes e) b d n t = inl (92, escapes_as c 92 92 backslash e)
escape_by c (no a) (yes e) d n t = inl (39, escapes_as c 39 39 apostrophe e)
escape_by c (no a) (no b) (yes e) n t = inl (34, escapes_as c 34 34 quotation e)
escape_by c (no a) (no b) (no d) (yes e) t = inl (10, escapes_as c 110 10 line_feed e)
escape_by c (no a) (no b) (no d) (no n) (yes e) = inl (9, escapes_as c 116 9 tabulator e)
escape_by c (no a) (no b) (no d) (no n) (no t) = inr (λ v. no_escape c v a b d n t)

behind_by : (c : ℕ) (cs : List ℕ) → EscapeOrNot c → (reading : Reading) × StandsBehindBackslash (c ∷ cs) reading
behind_by c cs (inl (v, h)) = (readings.Part 2 v, escape_behind c v cs h)
behind_by c cs (inr k) = (readings.Stop stops.LoneBackslash, lone_behind c cs k)

behind_backslash : (cs : List ℕ) → (reading : Reading) × StandsBehindBackslash cs reading
behind_backslash [] = (readings.Stop stops.LoneBackslash, lone_at_end)
behind_backslash (c ∷ cs) = behind_by c cs (escape_by c (ℕ_discrete c 92) (ℕ_discrete c 39) (ℕ_discrete c 34) (ℕ_discrete c 110) (ℕ_discrete c 116))

not_by : {A : Type 0} → Dec A → Dec (¬ A)
not_by (yes a) = no (λ k. k a)
not_by (no k) = yes k

fits_or_not : (quotes : Quotes) (c : ℕ) → Dec (FitsLine quotes c)
fits_or_not (Single q) c = not_by (ℕ_discrete c 10)
fits_or_not (Triple q) c = yes tt

-- what stands next in some characters
abbrev HasNext : Quotes → List ℕ → Type 0
HasNext quotes cs = (reading : Reading) × StandsNext quotes cs reading

next_here : (quotes : Quotes) (c : ℕ) (cs : List ℕ) → ¬ BeginsWith (c ∷ cs) (quote_text quotes) → Dec (c ≡ 92) → Dec (FitsLine quotes c) → HasNext quotes (c ∷ cs)
next_here quotes c cs k (yes e) d = let (reading, h) = behind_backslash cs in (reading, backslash_next quotes c cs reading e k h)
next_here quotes c cs k (no e) (yes f) = (readings.Part 1 c, plain_next quotes c cs k e f)
next_here quotes c cs k (no e) (no f) = (readings.Stop stops.Unclosed, line_end_next quotes c cs k e f)

next_by : (quotes : Quotes) (cs : List ℕ) → Dec (BeginsWith cs (quote_text quotes)) → HasNext quotes cs
next_by quotes cs (yes b) = (readings.Stop stops.Closing, b)
next_by quotes [] (no k) = (readings.Stop stops.Unclosed, nothing_next quotes k)
next_by quotes (c ∷ cs) (no k) = next_here quotes c cs k (ℕ_discrete c 92) (fits_or_not quotes c)

next_of : (quotes : Quotes) (cs : List ℕ) → HasNext quotes cs
next_of quotes cs = next_by quotes cs (begins_or_not cs (quote_text quotes))

-- the parts up to a stop
abbrev ReadsTo : Quotes → List ℕ → Type 0
ReadsTo quotes inner = (bytes : List ℕ) × (mid : List ℕ) × (stop : Stop) × HasRead quotes inner bytes mid × StandsNext quotes mid (readings.Stop stop)

part_shorter : (quotes : Quotes) (cs : List ℕ) (n value : ℕ) → StandsNext quotes cs (readings.Part n value) → length (drop n cs) < length cs
part_shorter quotes cs n value h = let (some, within) = part_fits quotes cs n value h in let e = length-drop n cs in omega arith

lone_shorter : (quotes : Quotes) (cs : List ℕ) → StandsNext quotes cs (readings.Stop stops.LoneBackslash) → length (drop 1 cs) < length cs
lone_shorter quotes cs (more, (e, k, p)) = let l : length cs ≡ length more + 1 = ap length e ∙ omega arith in let d = length-drop 1 cs in omega arith

reads_by : (quotes : Quotes) (inner bytes mid : List ℕ) (reading : Reading) → StandsNext quotes mid reading → HasRead quotes inner bytes mid
    → ((all left : List ℕ) → length left < length mid → HasRead quotes inner all left → ReadsTo quotes inner) → ReadsTo quotes inner
reads_by quotes inner bytes mid (readings.Stop stop) s h on = (bytes, mid, stop, h, s)
reads_by quotes inner bytes mid (readings.Part n value) s h on = on (bytes ++ encode_utf8 value) (drop n mid) (part_shorter quotes mid n value s) (read_more quotes inner bytes mid n value h s)

reads_on : (steps : ℕ) (quotes : Quotes) (inner bytes mid : List ℕ) → length mid < steps → HasRead quotes inner bytes mid → ReadsTo quotes inner
reads_on zero quotes inner bytes mid l h = absurd (omega arith)
reads_on (suc steps) quotes inner bytes mid l h = let (reading, s) = next_of quotes mid in reads_by quotes inner bytes mid reading s h (λ all left k i. reads_on steps quotes inner all left (omega arith) i)

reads : (quotes : Quotes) (inner : List ℕ) → ReadsTo quotes inner
reads quotes inner = reads_on (suc (length inner)) quotes inner [] inner (omega arith) (read_nothing quotes inner)

-- parts lead to closing quotes, or none do
abbrev ClosesOrNever : Quotes → List ℕ → Type 0
ClosesOrNever quotes cs = ((rest : List ℕ) × (parts : List Part) × GoesOn quotes cs parts (quote_text quotes ++ rest)) ⊎ NeverCloses quotes cs

closes_by : (quotes : Quotes) (cs : List ℕ) (parts : List Part) (mid : List ℕ) (reading : Reading) → StandsNext quotes mid reading → GoesOn quotes cs parts mid
    → ((more : List Part) (left : List ℕ) → length left < length mid → GoesOn quotes cs more left → ClosesOrNever quotes cs) → ClosesOrNever quotes cs
closes_by quotes cs parts mid (readings.Stop stops.Closing) (rest, e) g on = inl (rest, parts, subst (λ (x : List ℕ). GoesOn quotes cs parts x) e g)
closes_by quotes cs parts mid (readings.Stop stops.Unclosed) s g on = inr (never_from quotes cs parts mid g s)
closes_by quotes cs parts mid (readings.Stop stops.LoneBackslash) s g on = on (parts ++ LoneBackslash ∷ []) (drop 1 mid) (lone_shorter quotes mid s) (skips_lone quotes cs parts mid g s)
closes_by quotes cs parts mid (readings.Part n value) s g on = let (more, i) = skips_part quotes cs parts mid n value g s in on more (drop n mid) (part_shorter quotes mid n value s) i

closes_on : (steps : ℕ) (quotes : Quotes) (cs : List ℕ) (parts : List Part) (mid : List ℕ) → length mid < steps → GoesOn quotes cs parts mid → ClosesOrNever quotes cs
closes_on zero quotes cs parts mid l g = absurd (omega arith)
closes_on (suc steps) quotes cs parts mid l g = let (reading, s) = next_of quotes mid in closes_by quotes cs parts mid reading s g (λ more left k i. closes_on steps quotes cs more left (omega arith) i)

closes_or_never : (quotes : Quotes) (cs : List ℕ) → ClosesOrNever quotes cs
closes_or_never quotes cs = closes_on (suc (length cs)) quotes cs [] cs (omega arith) refl

bad_by : (p : Place) (quotes : Quotes) (cs inner bytes mid : List ℕ) → OpensWith cs quotes → cs ≡ quote_text quotes ++ inner → HasRead quotes inner bytes mid → StandsNext quotes mid (readings.Stop stops.LoneBackslash) → ClosesOrNever quotes (drop 1 mid) → HasPiece p cs
bad_by p quotes cs inner bytes mid o e r s (inl (rest, parts, g)) =
    let q : Place = after p (take (length cs - length mid) cs) in
    (length cs - length rest, shapes.BadEscape q, bad_piece quotes p q cs inner bytes mid rest parts (length cs - length rest) o e r s g refl refl)
bad_by p quotes cs inner bytes mid o e r s (inr k) = (length cs, shapes.Unclosed, open_piece quotes p cs inner o e (never_behind_lone quotes inner bytes mid r s k))

string_by : (p : Place) (quotes : Quotes) (cs inner bytes mid : List ℕ) (stop : Stop) → OpensWith cs quotes → cs ≡ quote_text quotes ++ inner → HasRead quotes inner bytes mid → StandsNext quotes mid (readings.Stop stop) → HasPiece p cs
string_by p quotes cs inner bytes mid stops.Closing o e r s = ((length cs - length mid) + length (quote_text quotes), shapes.Whole (forms.Str bytes), string_piece quotes p cs inner bytes mid ((length cs - length mid) + length (quote_text quotes)) o e r s refl)
string_by p quotes cs inner bytes mid stops.Unclosed o e r s = (length cs, shapes.Unclosed, open_piece quotes p cs inner o e (never_behind_read quotes inner bytes mid r s))
string_by p quotes cs inner bytes mid stops.LoneBackslash o e r s = bad_by p quotes cs inner bytes mid o e r s (closes_or_never quotes (drop 1 mid))

strings_by : (p : Place) (cs : List ℕ) → ((quotes : Quotes) × OpensWith cs quotes) ⊎ ((quotes : Quotes) → ¬ OpensWith cs quotes) → HasPiece p cs ⊎ ((quotes : Quotes) → ¬ OpensWith cs quotes)
strings_by p cs (inr k) = inr k
strings_by p cs (inl (quotes, o)) =
    let inner : List ℕ = drop (length (quote_text quotes)) cs in
    let (bytes, mid, stop, r, s) = reads quotes inner in
    inl (string_by p quotes cs inner bytes mid stop o (opened quotes cs o) r s)

pub string_or_none : (p : Place) (c : ℕ) (cs : List ℕ) → HasPiece p (c ∷ cs) ⊎ ((quotes : Quotes) → ¬ OpensWith (c ∷ cs) quotes)
string_or_none p c cs = strings_by p (c ∷ cs) (opening_by c cs (quote_by c (ℕ_discrete c 39) (ℕ_discrete c 34)) (begins_or_not cs (c ∷ c ∷ [])))
