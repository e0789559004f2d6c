-- Flags that no two assumptions oppose.
use Rattle.std.specs.Prelude.{◌≡◌, ◌≢◌, ℕ, suc, ◌+◌, ◌-◌, ◌==◌, Bool, true, false, not, if◌then◌else◌, List, [], ◌∷◌, ◌++◌, length, take, drop, All, Option, Some, None, slice_get, Result, Ok, Err, IfOk, MatchOption}
use Rattle.std.proofs.Common.{refl, ap, sym, subst, ◌∙◌, inl, arith}
use Rattle.std.proofs.lemmas.List.Elements.{All-nil, All-cons, All-head, All-tail}
use Rattle.terms.specs.declared.Literal.{Literal}
use Rattle.terms.specs.declared.Literal.TheVariants as lit
use Rattle.terms.specs.Meanings.{Valued, Holds}
use Rattle.terms.specs.SamenessLaws.{nat_same, nat_itself}
use Rattle.py_base.specs.declared.OutOfMemory.{OutOfMemory}
use Rattle.proof_checker.specs.declared.Derivation.{Derivation, Clash}
use Rattle.proof_checker.specs.Derivations.{clash}
use Rattle.proof_checker.specs.Valuations.{flag_in}
use Rattle.cond_facts.specs.Decisions.{DoFlagsHold, IsFlag}
use Rattle.cond_facts.specs.FlagFacts.{flags_among, IsUnopposed, AreUnopposed, HasNumber, IsOpposedAt, AreClashing}
use Rattle.cond_facts.proofs.Deriving.{out-Clash}
use Rattle.cond_facts.proofs.Collected.{stand_first, stand_next}

-- a literal says what the flag is in the list
abbrev IsSaid : List (ℕ × Bool) → Literal → Type 0
IsSaid list (lit.Flag n held) = flag_in list n ≡ held
IsSaid list l = Unit {0}

same_flag : (h held : Bool) → (h ≡ not held → ⊥) → h ≡ held
same_flag true true no_other = refl
same_flag true false no_other = absurd (no_other refl)
same_flag false true no_other = absurd (no_other refl)
same_flag false false no_other = refl

-- where the first says what a flag is, no later literal says otherwise
first_wins : (list : List (ℕ × Bool)) (n k : ℕ) (held h : Bool) → lit.Flag k h ≢ lit.Flag n (not held) → flag_in list k ≡ h → (b : Bool) → (k == n) ≡ b → (if b then held else flag_in list k) ≡ h
first_wins list n k held h other is true e =
    sym (same_flag h held (λ f. other (ap (λ (i : ℕ). lit.Flag i h) (nat_same k n e) ∙ ap (λ (c : Bool). lit.Flag n c) f)))
first_wins list n k held h other is false e = is

still_said : (list : List (ℕ × Bool)) (n : ℕ) (held : Bool) (l : Literal) → l ≢ lit.Flag n (not held) → IsSaid list l → IsSaid ((n, held) ∷ list) l
still_said list n held (lit.Flag k h) other is = first_wins list n k held h other is (k == n) refl
still_said list n held (lit.Same a b) other is = tt
still_said list n held (lit.Apart a b) other is = tt
still_said list n held (lit.AtMost a b) other is = tt

all_still_said : (list : List (ℕ × Bool)) (n : ℕ) (held : Bool) (ls : List Literal) → All (λ l. l ≢ lit.Flag n (not held)) ls → All (IsSaid list) ls → All (IsSaid ((n, held) ∷ list)) ls
all_still_said list n held [] other is = All-nil (IsSaid ((n, held) ∷ list))
all_still_said list n held (l ∷ ls) other is =
    All-cons (IsSaid ((n, held) ∷ list)) l ls (still_said list n held l (All-head (λ l. l ≢ lit.Flag n (not held)) l ls other) (All-head (IsSaid list) l ls is)) (all_still_said list n held ls (All-tail (λ l. l ≢ lit.Flag n (not held)) l ls other) (All-tail (IsSaid list) l ls is))

said_here : (list : List (ℕ × Bool)) (n : ℕ) (held : Bool) → flag_in ((n, held) ∷ list) n ≡ held
said_here list n held = ap (λ (b : Bool). if b then held else flag_in list n) (nat_itself n)

all_said : (ls : List Literal) → AreUnopposed ls → All (IsSaid (flags_among ls)) ls
all_said [] h = All-nil (IsSaid [])
all_said (lit.Flag n held ∷ ls) h =
    let list = flags_among ls in
    All-cons (IsSaid ((n, held) ∷ list)) (lit.Flag n held) ls (said_here list n held) (all_still_said list n held ls h.0 (all_said ls h.1))
all_said (lit.Same a b ∷ ls) h = All-cons (IsSaid (flags_among ls)) (lit.Same a b) ls tt (all_said ls h.1)
all_said (lit.Apart a b ∷ ls) h = All-cons (IsSaid (flags_among ls)) (lit.Apart a b) ls tt (all_said ls h.1)
all_said (lit.AtMost a b ∷ ls) h = All-cons (IsSaid (flags_among ls)) (lit.AtMost a b) ls tt (all_said ls h.1)

said_holds : (m : Valued) (list : List (ℕ × Bool)) (l : Literal) → m.flags ≡ flag_in list → IsSaid list l → IsFlag l → Holds m l
said_holds m list (lit.Flag n held) e is h = ap (λ (f : ℕ → Bool). f n) e ∙ is
said_holds m list (lit.Same a b) e is h = absurd h
said_holds m list (lit.Apart a b) e is h = absurd h
said_holds m list (lit.AtMost a b) e is h = absurd h

all_hold : (m : Valued) (list : List (ℕ × Bool)) (ls : List Literal) → m.flags ≡ flag_in list → All (IsSaid list) ls → All (λ l. IsFlag l → Holds m l) ls
all_hold m list [] e is = All-nil (λ l. IsFlag l → Holds m l)
all_hold m list (l ∷ ls) e is =
    All-cons (λ l. IsFlag l → Holds m l) l ls (said_holds m list l e (All-head (IsSaid list) l ls is)) (all_hold m list ls e (All-tail (IsSaid list) l ls is))

-- flags that no two assumptions oppose can be as they are said
pub flags_hold : (fs : List Literal) → AreUnopposed fs → DoFlagsHold fs (flags_among fs)
flags_hold fs h = λ m e. all_hold m (flags_among fs) fs e (all_said fs h)

-- a place among the others is one among all
pub one_later : (l k : Literal) (ls : List Literal) (place n : ℕ) → HasNumber ls (place + 1) n k → HasNumber (l ∷ ls) place n k
one_later l k ls place n h =
    let e = h.number in
    record { steps = suc h.steps; number = omega (arith, e); there = h.there }

pub here : (ls : List Literal) (l : Literal) (place : ℕ) → HasNumber (l ∷ ls) place place l
here ls l place = record { steps = 0; number = omega arith; there = refl }

pub opposed_clashes : (l : Literal) (ls : List Literal) (place n : ℕ) → IsOpposedAt l ls (place + 1) n → AreClashing (l ∷ ls) place (Clash place n)
opposed_clashes (lit.Flag k held) ls place n h = λ c fs stand.
    let there : slice_get fs n ≡ Some (lit.Flag k (not held)) = subst (λ i. slice_get fs i ≡ Some (lit.Flag k (not held))) (sym h.number) (stand_next fs place (lit.Flag k held) ls stand h.steps (lit.Flag k (not held)) h.there) in
    clash fs (Clash place n) place n (lit.Flag k held) (lit.Flag k (not held)) (out-Clash place n) (stand_first fs place (lit.Flag k held) ls stand) there (inl (inl refl))
opposed_clashes (lit.Same a b) ls place n h = absurd h
opposed_clashes (lit.Apart a b) ls place n h = absurd h
opposed_clashes (lit.AtMost a b) ls place n h = absurd h

pub clashing_later : (l : Literal) (ls : List Literal) (place : ℕ) (d : Derivation) → AreClashing ls (place + 1) d → AreClashing (l ∷ ls) place d
clashing_later l ls place d h = λ c fs stand. h c fs (stand_next fs place l ls stand)

-- the others behind the first
abbrev pub rest : List Literal → List Literal
rest ls = take (length ls - 1) (drop 1 ls)

-- what a search for a clash answers
abbrev pub Says : List Literal → ℕ → Option Derivation → Type 0
Says ls place o = MatchOption o (AreUnopposed ls) (λ d. AreClashing ls place d)

abbrev pub SaysOfOne : Literal → List Literal → ℕ → Option ℕ → Type 0
SaysOfOne l ls place o = MatchOption o (IsUnopposed l ls) (λ n. IsOpposedAt l ls place n)

pub found : (l : Literal) (fs ls : List Literal) (place next n : ℕ) (o : Option ℕ) → fs ≡ l ∷ ls → next ≡ place + 1 → o ≡ Some n → SaysOfOne l ls next o → AreClashing fs place (Clash place n)
found l fs ls place next n o e f is h =
    subst (λ z. AreClashing z place (Clash place n)) (sym e) (opposed_clashes l ls place n (subst (λ i. IsOpposedAt l ls i n) f (subst (SaysOfOne l ls next) is h)))

says_more : (l : Literal) (ls : List Literal) (place : ℕ) (r : Result (Option Derivation) OutOfMemory) → IsUnopposed l ls → IfOk r (Says ls (place + 1)) → IfOk r (Says (l ∷ ls) place)
says_more l ls place (Ok None) one h = (one, h)
says_more l ls place (Ok (Some d)) one h = clashing_later l ls place d h
says_more l ls place (Err _) one h = tt

pub goes_on : (l : Literal) (fs ls : List Literal) (place next : ℕ) (o : Option ℕ) (r : Result (Option Derivation) OutOfMemory) → fs ≡ l ∷ ls → next ≡ place + 1 → o ≡ None → SaysOfOne l ls next o → IfOk r (Says ls next) → IfOk r (Says fs place)
goes_on l fs ls place next o r e f is one h =
    subst (λ z. IfOk r (Says z place)) (sym e) (says_more l ls place r (subst (SaysOfOne l ls next) is one) (subst (λ i. IfOk r (Says ls i)) f h))

pub listed_hold : (fs : List Literal) (o : Option Derivation) (none list : List (ℕ × Bool)) → o ≡ None → Says fs 0 o → none ≡ [] → list ≡ none ++ flags_among fs → DoFlagsHold fs list
listed_hold fs o none list is h e f =
    subst (DoFlagsHold fs) (sym (f ∙ ap (λ ls. ls ++ flags_among fs) e)) (flags_hold fs (subst (Says fs 0) is h))
