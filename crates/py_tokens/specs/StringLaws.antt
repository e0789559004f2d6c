-- The characters of a text have one reading as a string.
use Rattle.std.proofs.Common.{ℕ, ◌≡◌, ◌==◌, cond, refl, sym, ap, ◌∙◌, subst, List, [], ◌∷◌, ◌++◌}
use Rattle.std.proofs.lemmas.List.{append_cancel_left}
use Rattle.py_tokens.specs.StringForms.{Quotes, Single, Triple, quote_text, BeginsWith, OpensWith, opens_triple, opens_single, Part, Plain, Escape, LoneBackslash, IsEscape, backslash, apostrophe, quotation, line_feed, tabulator, part_text, IsPart, GoesOn, SpellsString, StandsFor}

same_head : (c d : ℕ) (cs ds : List ℕ) → c ∷ cs ≡ d ∷ ds → c ≡ d
same_head c d cs ds e = cc

same_tail : (c d : ℕ) (cs ds : List ℕ) → c ∷ cs ≡ d ∷ ds → cs ≡ ds
same_tail c d cs ds e = cc

same_first : (cs : List ℕ) (c d : ℕ) (more other : List ℕ) → BeginsWith cs (c ∷ more) → BeginsWith cs (d ∷ other) → c ≡ d
same_first cs c d more other p q =
    let (r, e) = p in
    let (s, f) = q in
    same_head c d (more ++ r) (other ++ s) (sym e ∙ f)

abbrev three : ℕ → List ℕ
three q = q ∷ q ∷ q ∷ []

-- Some characters open with one kind of quotes.
pub same_quotes : (cs : List ℕ) (q r : Quotes) → OpensWith cs q → OpensWith cs r → q ≡ r
same_quotes cs q r (opens_triple a i p) (opens_triple b j s) = ap Triple (same_first cs a b (a ∷ a ∷ []) (b ∷ b ∷ []) p s)
same_quotes cs q r (opens_triple a i p) (opens_single b j s n) =
    absurd (n (subst (λ (c : ℕ). BeginsWith cs (three c)) (same_first cs a b (a ∷ a ∷ []) [] p s) p))
same_quotes cs q r (opens_single a i p n) (opens_triple b j s) =
    absurd (n (subst (λ (c : ℕ). BeginsWith cs (three c)) (sym (same_first cs a b [] (b ∷ b ∷ []) p s)) s))
same_quotes cs q r (opens_single a i p n) (opens_single b j s o) = ap Single (same_first cs a b [] [] p s)

-- what an escape stands for, by its character
abbrev escaped : ℕ → ℕ
escaped c = cond (c == 110) 10 (cond (c == 116) 9 c)

escape_is : (c v : ℕ) → IsEscape c v → v ≡ escaped c
escape_is c v backslash = refl
escape_is c v apostrophe = refl
escape_is c v quotation = refl
escape_is c v line_feed = refl
escape_is c v tabulator = refl

-- One part is in front of some characters of a string, and one rest behind it.
pub same_part : (quotes : Quotes) (p q : Part) (more other : List ℕ) → part_text p ++ more ≡ part_text q ++ other → IsPart quotes p more → IsPart quotes q other → (p ≡ q) × (more ≡ other)
same_part quotes (Plain c) (Plain d) more other e h i = (ap Plain (same_head c d more other e), same_tail c d more other e)
same_part quotes (Plain c) (Escape d v) more other e h i = absurd (h.0 (same_head c 92 more (d ∷ other) e))
same_part quotes (Plain c) LoneBackslash more other e h i = absurd (h.0 (same_head c 92 more other e))
same_part quotes (Escape c v) (Plain d) more other e h i = absurd (i.0 (sym (same_head 92 d (c ∷ more) other e)))
same_part quotes LoneBackslash (Plain d) more other e h i = absurd (i.0 (sym (same_head 92 d more other e)))
same_part quotes (Escape c v) (Escape d w) more other e h i =
    let k : c ≡ d = cc in
    let l : v ≡ w = escape_is c v h ∙ ap escaped k ∙ sym (escape_is d w i) in
    (cc, cc)
same_part quotes (Escape c v) LoneBackslash more other e h i = absurd (i c v h (more, sym (same_tail 92 92 (c ∷ more) other e)))
same_part quotes LoneBackslash (Escape d w) more other e h i = absurd (h d w i (other, same_tail 92 92 more (d ∷ other) e))
same_part quotes LoneBackslash LoneBackslash more other e h i = (refl, same_tail 92 92 more other e)

-- The parts up to the closing quotes are determined.
pub same_parts : (quotes : Quotes) (ps qs : List Part) (cs rest other : List ℕ) → GoesOn quotes cs ps (quote_text quotes ++ rest) → GoesOn quotes cs qs (quote_text quotes ++ other) → (ps ≡ qs) × (rest ≡ other)
same_parts quotes [] [] cs rest other g h = (refl, append_cancel_left (quote_text quotes) rest other (sym g ∙ h))
same_parts quotes [] (q ∷ qs) cs rest other g h =
    let (more, e, n, i, on) = h in absurd (n (rest, g))
same_parts quotes (p ∷ ps) [] cs rest other g h =
    let (more, e, n, i, on) = g in absurd (n (other, h))
same_parts quotes (p ∷ ps) (q ∷ qs) cs rest other g h =
    let (more, e, n, i, on) = g in
    let (others, f, m, j, go) = h in
    let (k, l) = same_part quotes p q more others (sym e ∙ f) i j in
    let (t, u) = same_parts quotes ps qs more rest other on (subst (λ (ds : List ℕ). GoesOn quotes ds qs (quote_text quotes ++ other)) (sym l) go) in
    (cc, u)

-- A text has one string in front.
pub same_string : (cs : List ℕ) (q r : Quotes) (ps qs : List Part) (rest other : List ℕ) → SpellsString cs q ps rest → SpellsString cs r qs other → (q ≡ r) × (ps ≡ qs) × (rest ≡ other)
same_string cs q r ps qs rest other g h =
    let (inner, o, e, on) = g in
    let (within, u, f, go) = h in
    let k : r ≡ q = same_quotes cs r q u o in
    let f' : cs ≡ quote_text q ++ within = subst (λ (t : Quotes). cs ≡ quote_text t ++ within) k f in
    let go' : GoesOn q within qs (quote_text q ++ other) = subst (λ (t : Quotes). GoesOn t within qs (quote_text t ++ other)) k go in
    let l : within ≡ inner = append_cancel_left (quote_text q) within inner (sym f' ∙ e) in
    let (m, n) = same_parts q ps qs inner rest other on (subst (λ (ds : List ℕ). GoesOn q ds qs (quote_text q ++ other)) l go') in
    (sym k, m, n)

-- Parts stand for one value.
pub same_value : (ps : List Part) (v w : List ℕ) → StandsFor ps v → StandsFor ps w → v ≡ w
same_value [] v w h i = h ∙ sym i
same_value (Plain c ∷ ps) v w h i =
    let (m, e, on) = h in
    let (n, f, go) = i in
    e ∙ ap (λ (t : List ℕ). c ∷ t) (same_value ps m n on go) ∙ sym f
same_value (Escape c x ∷ ps) v w h i =
    let (m, e, on) = h in
    let (n, f, go) = i in
    e ∙ ap (λ (t : List ℕ). x ∷ t) (same_value ps m n on go) ∙ sym f
same_value (LoneBackslash ∷ ps) v w h i = absurd h

-- Parts with a lone backslash stand for nothing.
pub no_value : (ps more : List Part) (v : List ℕ) → StandsFor (ps ++ LoneBackslash ∷ more) v → ⊥
no_value [] more v h = h
no_value (Plain c ∷ ps) more v h = let (m, e, on) = h in no_value ps more m on
no_value (Escape c x ∷ ps) more v h = let (m, e, on) = h in no_value ps more m on
no_value (LoneBackslash ∷ ps) more v h = h

lone_value : (p : Part) (ps : List Part) (v : List ℕ) → LoneBackslash ≡ p → StandsFor (p ∷ ps) v → ⊥
lone_value p ps v e h = subst (λ (q : Part). StandsFor (q ∷ ps) v) (sym e) h

value_behind : (p : Part) (ps : List Part) (v : List ℕ) → StandsFor (p ∷ ps) v → (w : List ℕ) × StandsFor ps w
value_behind (Plain c) ps v h = let (m, e, on) = h in (m, on)
value_behind (Escape c x) ps v h = let (m, e, on) = h in (m, on)
value_behind LoneBackslash ps v h = absurd h

-- The parts in front of the first lone backslash are determined.
pub same_good : (ps qs more other : List Part) (v w : List ℕ) → ps ++ LoneBackslash ∷ more ≡ qs ++ LoneBackslash ∷ other → StandsFor ps v → StandsFor qs w → ps ≡ qs
same_good [] [] more other v w e h i = refl
same_good [] (q ∷ qs) more other v w e h i = let k : LoneBackslash ≡ q = cc in absurd (lone_value q qs w k i)
same_good (p ∷ ps) [] more other v w e h i = let k : LoneBackslash ≡ p = cc in absurd (lone_value p ps v k h)
same_good (p ∷ ps) (q ∷ qs) more other v w e h i =
    let (m, on) = value_behind p ps v h in
    let (n, go) = value_behind q qs w i in
    let k : p ≡ q = cc in
    let t : ps ++ LoneBackslash ∷ more ≡ qs ++ LoneBackslash ∷ other = cc in
    let l : ps ≡ qs = same_good ps qs more other m n t on go in
    cc
