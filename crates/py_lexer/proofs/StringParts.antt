-- The parts of a string, one by one.
use Rattle.std.proofs.Common.{ℕ, ◌≡◌, refl, sym, ap, ◌∙◌, subst, arith, List, [], ◌∷◌, ◌++◌, length, ◌≤◌, ◌-◌, get_or, take, drop}
use Rattle.py_lexer.proofs.Begins.{all_behind}
use Rattle.py_tokens.specs.StringForms.{Quotes, Single, Triple, quote_text, BeginsWith, IsQuote, OpensWith, opens_triple, opens_single, Part, Plain, Escape, LoneBackslash, part_text, FitsLine, IsEscape, backslash, apostrophe, quotation, line_feed, tabulator, IsPart}
use Rattle.py_lexer.specs.declared.strings.Reading.{Reading}
use Rattle.py_lexer.specs.declared.strings.Reading.TheVariants as readings
use Rattle.py_lexer.specs.declared.strings.Stop.TheVariants as stops
use Rattle.py_lexer.specs.StringReading.{StandsNext, StandsBehindBackslash}

pub no_part_in_nothing : (quotes : Quotes) (part : Part) (more : List ℕ) → [] ≡ part_text part ++ more → ⊥
no_part_in_nothing quotes (Plain c) more e = cc
no_part_in_nothing quotes (Escape c v) more e = cc
no_part_in_nothing quotes LoneBackslash more e = cc

pub nothing_next : (quotes : Quotes) → ¬ BeginsWith [] (quote_text quotes) → StandsNext quotes [] (readings.Stop stops.Unclosed)
nothing_next quotes k = (k, λ part more h. no_part_in_nothing quotes part more h.0)

pub plain_next : (quotes : Quotes) (c : ℕ) (cs : List ℕ) → ¬ BeginsWith (c ∷ cs) (quote_text quotes) → ¬ (c ≡ 92) → FitsLine quotes c → StandsNext quotes (c ∷ cs) (readings.Part 1 c)
plain_next quotes c cs k b f = (Plain c, cs, (refl, k, (b, f)), ([], refl, refl), refl)

no_part_by : (quotes : Quotes) (c : ℕ) (cs : List ℕ) (part : Part) (more : List ℕ) → ¬ (c ≡ 92) → ¬ FitsLine quotes c → c ∷ cs ≡ part_text part ++ more → IsPart quotes part more → ⊥
no_part_by quotes c cs (Plain d) more b f e (n, fits) = let k : d ≡ c = cc in f (subst (λ (x : ℕ). FitsLine quotes x) k fits)
no_part_by quotes c cs (Escape d v) more b f e h = b (cc)
no_part_by quotes c cs LoneBackslash more b f e h = b (cc)

pub line_end_next : (quotes : Quotes) (c : ℕ) (cs : List ℕ) → ¬ BeginsWith (c ∷ cs) (quote_text quotes) → ¬ (c ≡ 92) → ¬ FitsLine quotes c → StandsNext quotes (c ∷ cs) (readings.Stop stops.Unclosed)
line_end_next quotes c cs k b f = (k, λ part more h. no_part_by quotes c cs part more b f h.0 h.2)

behind_next : (quotes : Quotes) (cs : List ℕ) (reading : Reading) → ¬ BeginsWith (92 ∷ cs) (quote_text quotes) → StandsBehindBackslash cs reading → StandsNext quotes (92 ∷ cs) reading
behind_next quotes cs (readings.Part n value) k (c, more, e, h, l) = (Escape c value, more, (ap (λ x. 92 ∷ x) e, k, h), ([], refl, refl), l)
behind_next quotes cs (readings.Stop stops.LoneBackslash) k h = (cs, (refl, k, h))
behind_next quotes cs (readings.Stop stops.Closing) k h = absurd h
behind_next quotes cs (readings.Stop stops.Unclosed) k h = absurd h

pub backslash_next : (quotes : Quotes) (c : ℕ) (cs : List ℕ) (reading : Reading) → c ≡ 92 → ¬ BeginsWith (c ∷ cs) (quote_text quotes) → StandsBehindBackslash cs reading → StandsNext quotes (c ∷ cs) reading
backslash_next quotes c cs reading e k h = subst (λ (x : ℕ). StandsNext quotes (x ∷ cs) reading) (sym e) (behind_next quotes cs reading (λ b. k (subst (λ (x : ℕ). BeginsWith (x ∷ cs) (quote_text quotes)) (sym e) b)) h)

pub escape_behind : (c value : ℕ) (cs : List ℕ) → IsEscape c value → StandsBehindBackslash (c ∷ cs) (readings.Part 2 value)
escape_behind c value cs h = (c, cs, refl, h, refl)

pub lone_behind : (c : ℕ) (cs : List ℕ) → ((v : ℕ) → ¬ IsEscape c v) → StandsBehindBackslash (c ∷ cs) (readings.Stop stops.LoneBackslash)
lone_behind c cs k d v h (rest, e) = let i : d ≡ c = cc in k v (subst (λ (x : ℕ). IsEscape x v) i h)

pub lone_at_end : StandsBehindBackslash [] (readings.Stop stops.LoneBackslash)
lone_at_end d v h (rest, e) = cc

pub escapes_as : (c d v : ℕ) → IsEscape d v → c ≡ d → IsEscape c v
escapes_as c d v h e = subst (λ (x : ℕ). IsEscape x v) (sym e) h

pub no_escape : (c v : ℕ) → ¬ (c ≡ 92) → ¬ (c ≡ 39) → ¬ (c ≡ 34) → ¬ (c ≡ 110) → ¬ (c ≡ 116) → ¬ IsEscape c v
no_escape c v a b d n t backslash = a refl
no_escape c v a b d n t apostrophe = b refl
no_escape c v a b d n t quotation = d refl
no_escape c v a b d n t line_feed = n refl
no_escape c v a b d n t tabulator = t refl

pub headed : (cs : List ℕ) (c : ℕ) → 1 ≤ length cs → c ≡ get_or cs 0 c → cs ≡ c ∷ take (length cs - 1) (drop 1 cs)
headed [] c w e = absurd (omega arith)
headed (x ∷ xs) c w e = ap (λ y. y ∷ xs) (sym e) ∙ ap (λ ys. c ∷ ys) (sym (all_behind (x ∷ xs)))

pub next_backslash : (quotes : Quotes) (cs rest : List ℕ) (c : ℕ) (reading : Reading) → cs ≡ c ∷ rest → c ≡ 92 → ¬ BeginsWith cs (quote_text quotes) → StandsBehindBackslash rest reading → StandsNext quotes cs reading
next_backslash quotes cs rest c reading e h k b = subst (λ (x : List ℕ). StandsNext quotes x reading) (sym e) (backslash_next quotes c rest reading h (λ y. k (subst (λ (x : List ℕ). BeginsWith x (quote_text quotes)) (sym e) y)) b)

pub next_plain : (quotes : Quotes) (cs rest : List ℕ) (c : ℕ) → cs ≡ c ∷ rest → ¬ BeginsWith cs (quote_text quotes) → ¬ (c ≡ 92) → FitsLine quotes c → StandsNext quotes cs (readings.Part 1 c)
next_plain quotes cs rest c e k b f = subst (λ (x : List ℕ). StandsNext quotes x (readings.Part 1 c)) (sym e) (plain_next quotes c rest (λ y. k (subst (λ (x : List ℕ). BeginsWith x (quote_text quotes)) (sym e) y)) b f)

two_more : (c d : ℕ) (cs : List ℕ) → BeginsWith cs (d ∷ d ∷ []) → BeginsWith (c ∷ cs) (c ∷ d ∷ d ∷ [])
two_more c d cs (rest, e) = (rest, ap (λ x. c ∷ x) e)

two_less : (c d : ℕ) (cs : List ℕ) → BeginsWith (c ∷ cs) (c ∷ d ∷ d ∷ []) → BeginsWith cs (d ∷ d ∷ [])
two_less c d cs (rest, e) = (rest, cc)

pub opens_with_three : (cs rest : List ℕ) (c : ℕ) → cs ≡ c ∷ rest → IsQuote c → BeginsWith rest (c ∷ c ∷ []) → OpensWith cs (Triple c)
opens_with_three cs rest c e q h = subst (λ (x : List ℕ). OpensWith x (Triple c)) (sym e) (opens_triple c q (two_more c c rest h))

pub opens_with_one : (cs rest : List ℕ) (c : ℕ) → cs ≡ c ∷ rest → IsQuote c → ¬ BeginsWith rest (c ∷ c ∷ []) → OpensWith cs (Single c)
opens_with_one cs rest c e q h = subst (λ (x : List ℕ). OpensWith x (Single c)) (sym e) (opens_single c q (rest, refl) (λ b. h (two_less c c rest b)))

opens_quote : (c : ℕ) (cs : List ℕ) (quotes : Quotes) → OpensWith (c ∷ cs) quotes → IsQuote c
opens_quote c cs (Triple q) (opens_triple p k (rest, e)) = let i : p ≡ c = cc in subst IsQuote i k
opens_quote c cs (Single q) (opens_single p k (rest, e) n) = let i : p ≡ c = cc in subst IsQuote i k

pub opens_not : (cs rest : List ℕ) (c : ℕ) → cs ≡ c ∷ rest → ¬ IsQuote c → (quotes : Quotes) → OpensWith cs quotes → ⊥
opens_not cs rest c e k quotes h = k (opens_quote c rest quotes (subst (λ (x : List ℕ). OpensWith x quotes) e h))

pub nothing_opens : (quotes : Quotes) → OpensWith [] quotes → ⊥
nothing_opens (Triple q) (opens_triple p k (rest, e)) = cc
nothing_opens (Single q) (opens_single p k (rest, e) n) = cc
