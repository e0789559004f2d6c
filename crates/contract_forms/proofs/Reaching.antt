-- By as many rounds as there are functions exactly those are found that reach themselves: each round but the last few adds a function,
-- and where one adds none, no later one does.
use Rattle.std.proofs.Common.{◌≡◌, ◌≢◌, refl, sym, ap, subst, ◌∙◌, ◌⊎◌, inl, inr, ◌≤◌, ◌<◌, ◌+◌, ◌-◌, ℕ, zero, suc, Bool, true, false, ◌||◌, nat_eq, List, [], ◌∷◌, map, length, slice_get, Option, Some, None, arith}
use Rattle.std.specs.Prelude.{⊤}
use Rattle.std.specs.Option.{option_map, option_map_or}
use Rattle.std.proofs.lemmas.List.{length-map}
use Rattle.std.proofs.lemmas.Bool.Decides.{eqb_tells}
use Rattle.std.proofs.lemmas.Option.{slice_get-map}
use Rattle.contract_forms.specs.Pures.{is_true, leads, calls_toward, nowhere, reaching, is_recursive}
use Rattle.contract_forms.specs.Reach.{IsIn, Calls, Reaches, calls_it, leads_to_it}
use Rattle.contract_forms.proofs.Rounds.{more}

abbrev Tells : ℕ → ℕ → Type 0
Tells a b = ((nat_eq a b ≡ true) × (a ≡ b)) ⊎ ((nat_eq a b ≡ false) × (a ≢ b))

tells : (a b : ℕ) → Tells a b
tells a b = eqb_tells a b

-- a mark that is asked for stands there
marked : (o : Option Bool) → option_map_or is_true o false ≡ true → o ≡ Some true
marked None e = absurd (cc)
marked (Some true) e = refl
marked (Some false) e = absurd (cc)

-- What is found reaches.
abbrev AllReach : List (List ℕ) → ℕ → List Bool → Type 0
AllReach rs b reached = (c : ℕ) → slice_get reached c ≡ Some true → Reaches rs b c

led : (rs : List (List ℕ)) (b : ℕ) (reached : List Bool) (a c : ℕ) (row : List ℕ) → AllReach rs b reached → slice_get rs a ≡ Some row → IsIn c row → Tells c b → leads b reached c ≡ true → Reaches rs b a
led rs b reached a c row h is there (inl (p, q)) e = calls_it a (row, is, subst (λ x. IsIn x row) q there)
led rs b reached a c row h is there (inr (p, q)) e =
    let rest : option_map_or is_true (slice_get reached c) false ≡ true = sym (ap (λ x. x || option_map_or is_true (slice_get reached c) false) p) ∙ e in
    leads_to_it a c (row, is, there) (h c (marked (slice_get reached c) rest))

-- the first of a row, or a later one
led_one : (X : Type 0) (b : ℕ) (reached : List Bool) (c : ℕ) (cs : List ℕ) (x : Bool) → leads b reached c ≡ x → (x || calls_toward b reached cs) ≡ true → (leads b reached c ≡ true → X) → (calls_toward b reached cs ≡ true → X) → X
led_one X b reached c cs true e h now later = now e
led_one X b reached c cs false e h now later = later h

led_by : (rs : List (List ℕ)) (b : ℕ) (reached : List Bool) (a : ℕ) (row cs : List ℕ) → AllReach rs b reached → slice_get rs a ≡ Some row → ((c : ℕ) → IsIn c cs → IsIn c row) → calls_toward b reached cs ≡ true → Reaches rs b a
led_by rs b reached a row [] h is within e = absurd (cc)
led_by rs b reached a row (c ∷ cs) h is within e =
    led_one (Reaches rs b a) b reached c cs (leads b reached c) refl e
    (led rs b reached a c row h is (within c (inl refl)) (tells c b))
    (led_by rs b reached a row cs h is (λ d i. within d (inr i)))

led_from : (rs : List (List ℕ)) (b : ℕ) (reached : List Bool) (a : ℕ) (o : Option (List ℕ)) → AllReach rs b reached → slice_get rs a ≡ o → option_map (calls_toward b reached) o ≡ Some true → Reaches rs b a
led_from rs b reached a None h is e = absurd (cc)
led_from rs b reached a (Some row) h is e = let f : calls_toward b reached row ≡ true = cc in led_by rs b reached a row row h is (λ c i. i) f

none_yet : (o : Option (List ℕ)) → option_map nowhere o ≡ Some true → ⊥
none_yet None e = cc
none_yet (Some row) e = cc

found_reach : (rs : List (List ℕ)) (b k : ℕ) → AllReach rs b (reaching rs b k)
found_reach rs b zero a e = absurd (none_yet (slice_get rs a) (sym (slice_get-map nowhere rs a) ∙ e))
found_reach rs b (suc k) a e = led_from rs b (reaching rs b k) a (slice_get rs a) (found_reach rs b k) refl (sym (slice_get-map (calls_toward b (reaching rs b k)) rs a) ∙ e)

found_at : (rs : List (List ℕ)) (b : ℕ) (o : Option (List ℕ)) → slice_get rs b ≡ o → option_map_or (calls_toward b (reaching rs b (length rs))) o false ≡ true → Reaches rs b b
found_at rs b None is e = absurd (cc)
found_at rs b (Some row) is e = led_by rs b (reaching rs b (length rs)) b row row (found_reach rs b (length rs)) is (λ c i. i) e

pub found : (rs : List (List ℕ)) (b : ℕ) → is_recursive rs b ≡ true → Reaches rs b b
found rs b e = found_at rs b (slice_get rs b) refl e

-- What reaches is found. Marks grow from round to round.
abbrev Under : List Bool → List Bool → Type 0
Under [] [] = ⊤
Under [] (y ∷ ys) = ⊥
Under (x ∷ xs) [] = ⊥
Under (x ∷ xs) (y ∷ ys) = (x ≡ true → y ≡ true) × Under xs ys

under_at : (xs ys : List Bool) (c : ℕ) → Under xs ys → slice_get xs c ≡ Some true → slice_get ys c ≡ Some true
under_at [] [] c u e = absurd (cc)
under_at [] (y ∷ ys) c u e = absurd u
under_at (x ∷ xs) [] c u e = absurd u
under_at (x ∷ xs) (y ∷ ys) zero (h, u) e = let f : x ≡ true = cc in ap (λ (b : Bool). Some b) (h f)
under_at (x ∷ xs) (y ∷ ys) (suc c) (h, u) e = under_at xs ys c u e

under_map : (f g : List ℕ → Bool) (rs : List (List ℕ)) → ((row : List ℕ) → f row ≡ true → g row ≡ true) → Under (map f rs) (map g rs)
under_map f g [] h = tt
under_map f g (row ∷ rs) h = (h row, under_map f g rs h)

or_right : (x : Bool) → (x || true) ≡ true
or_right true = refl
or_right false = refl

leads_on : (b : ℕ) (xs ys : List Bool) (c : ℕ) → Under xs ys → Tells c b → leads b xs c ≡ true → leads b ys c ≡ true
leads_on b xs ys c u (inl (p, q)) e = ap (λ x. x || option_map_or is_true (slice_get ys c) false) p
leads_on b xs ys c u (inr (p, q)) e =
    let rest : option_map_or is_true (slice_get xs c) false ≡ true = sym (ap (λ x. x || option_map_or is_true (slice_get xs c) false) p) ∙ e in
    let there : slice_get ys c ≡ Some true = under_at xs ys c u (marked (slice_get xs c) rest) in
    ap (λ (o : Option Bool). nat_eq c b || option_map_or is_true o false) there ∙ or_right (nat_eq c b)

toward_on : (b : ℕ) (xs ys : List Bool) (row : List ℕ) → Under xs ys → calls_toward b xs row ≡ true → calls_toward b ys row ≡ true
toward_on b xs ys [] u e = absurd (cc)
toward_on b xs ys (c ∷ cs) u e =
    led_one (calls_toward b ys (c ∷ cs) ≡ true) b xs c cs (leads b xs c) refl e
    (λ h. ap (λ x. x || calls_toward b ys cs) (leads_on b xs ys c u (tells c b) h))
    (λ h. ap (λ x. leads b ys c || x) (toward_on b xs ys cs u h) ∙ or_right (leads b ys c))

grows : (rs : List (List ℕ)) (b k : ℕ) → Under (reaching rs b k) (reaching rs b (suc k))
grows rs b zero = under_map nowhere (calls_toward b (reaching rs b 0)) rs (λ row e. absurd (cc))
grows rs b (suc k) = under_map (calls_toward b (reaching rs b k)) (calls_toward b (reaching rs b (suc k))) rs (λ row. toward_on b (reaching rs b k) (reaching rs b (suc k)) row (grows rs b k))

-- what is marked after k rounds is marked after n more
kept : (rs : List (List ℕ)) (b k n c : ℕ) → slice_get (reaching rs b k) c ≡ Some true → slice_get (reaching rs b (n + k)) c ≡ Some true
kept rs b k zero c e = let z : 0 + k ≡ k = omega arith in ap (λ j. slice_get (reaching rs b j) c) z ∙ e
kept rs b k (suc n) c e =
    let z : suc n + k ≡ suc (n + k) = omega arith in
    ap (λ j. slice_get (reaching rs b j) c) z ∙ under_at (reaching rs b (n + k)) (reaching rs b (suc (n + k))) c (grows rs b (n + k)) (kept rs b k n c e)

-- As long as a round changes something, one mark more is set, and there are no more marks than functions.
abbrev count : List Bool → ℕ
count [] = 0
count (true ∷ xs) = suc (count xs)
count (false ∷ xs) = count xs

few : (xs : List Bool) → count xs ≤ length xs
few [] = let h : 0 ≤ 0 = omega arith in h
few (true ∷ xs) = let h : suc (count xs) ≤ suc (length xs) = omega (arith, few xs) in h
few (false ∷ xs) = let h : count xs ≤ suc (length xs) = omega (arith, few xs) in h

step_on : (x : Bool) (xs ys : List Bool) → (xs ≡ ys) ⊎ (count xs < count ys) → (x ∷ xs ≡ x ∷ ys) ⊎ (count (x ∷ xs) < count (x ∷ ys))
step_on x xs ys (inl e) = inl (ap (λ (t : List Bool). x ∷ t) e)
step_on true xs ys (inr l) = let h : suc (count xs) < suc (count ys) = omega (arith, l) in inr h
step_on false xs ys (inr l) = inr l

step_up : (xs ys : List Bool) → (xs ≡ ys) ⊎ (count xs < count ys) → count xs < suc (count ys)
step_up xs ys (inl e) = let f : count xs ≡ count ys = ap count e in omega (arith, f)
step_up xs ys (inr l) = omega (arith, l)

step : (xs ys : List Bool) → Under xs ys → (xs ≡ ys) ⊎ (count xs < count ys)
step [] [] u = inl refl
step [] (y ∷ ys) u = absurd u
step (x ∷ xs) [] u = absurd u
step (true ∷ xs) (true ∷ ys) (h, u) = step_on true xs ys (step xs ys u)
step (false ∷ xs) (false ∷ ys) (h, u) = step_on false xs ys (step xs ys u)
step (false ∷ xs) (true ∷ ys) (h, u) = inr (step_up xs ys (step xs ys u))
step (true ∷ xs) (false ∷ ys) (h, u) = let f : false ≡ true = h refl in absurd (cc)

long : (rs : List (List ℕ)) (b k : ℕ) → length (reaching rs b k) ≡ length rs
long rs b zero = length-map rs nowhere
long rs b (suc k) = length-map rs (calls_toward b (reaching rs b k))

-- a round below k that changes nothing, or k marks
abbrev Rests : List (List ℕ) → ℕ → ℕ → Type 0
Rests rs b k = (j : ℕ) × (j < k) × (reaching rs b (suc j) ≡ reaching rs b j)

rests_on : (rs : List (List ℕ)) (b k : ℕ) → Rests rs b k ⊎ (k ≤ count (reaching rs b k)) → (reaching rs b k ≡ reaching rs b (suc k)) ⊎ (count (reaching rs b k) < count (reaching rs b (suc k))) → Rests rs b (suc k) ⊎ (suc k ≤ count (reaching rs b (suc k)))
rests_on rs b k (inl (j, l, e)) s = inl (j, omega (arith, l), e)
rests_on rs b k (inr l) (inl e) = inl (k, omega arith, sym e)
rests_on rs b k (inr l) (inr s) = inr (omega (arith, l, s))

rests_or : (rs : List (List ℕ)) (b k : ℕ) → Rests rs b k ⊎ (k ≤ count (reaching rs b k))
rests_or rs b zero = inr (omega arith)
rests_or rs b (suc k) = rests_on rs b k (rests_or rs b k) (step (reaching rs b k) (reaching rs b (suc k)) (grows rs b k))

rests_of : (rs : List (List ℕ)) (b : ℕ) → Rests rs b (suc (length rs)) ⊎ (suc (length rs) ≤ count (reaching rs b (suc (length rs)))) → Rests rs b (suc (length rs))
rests_of rs b (inl r) = r
rests_of rs b (inr l) = absurd (omega (arith, l, few (reaching rs b (suc (length rs))), long rs b (suc (length rs))))

-- what is marked after some rounds is marked after as many as there are functions
enough_by : (rs : List (List ℕ)) (b k c : ℕ) → Rests rs b (suc (length rs)) → slice_get (reaching rs b k) c ≡ Some true → slice_get (reaching rs b (length rs)) c ≡ Some true
enough_by rs b k c (j, l, same) e =
    let far : slice_get (reaching rs b (j + k)) c ≡ Some true = kept rs b k j c e in
    let turned : j + k ≡ k + j = omega arith in
    let here : slice_get (reaching rs b j) c ≡ Some true = sym (ap (λ (xs : List Bool). slice_get xs c) (ap (reaching rs b) turned ∙ more rs b j k same)) ∙ far in
    let counted : (length rs - j) + j ≡ length rs = omega (arith, l) in
    sym (ap (λ (xs : List Bool). slice_get xs c) (sym (more rs b j (length rs - j) same) ∙ ap (reaching rs b) counted)) ∙ here

enough : (rs : List (List ℕ)) (b k c : ℕ) → slice_get (reaching rs b k) c ≡ Some true → slice_get (reaching rs b (length rs)) c ≡ Some true
enough rs b k c e = enough_by rs b k c (rests_of rs b (rests_or rs b (suc (length rs)))) e

-- a row with a number that leads there
toward_by : (b : ℕ) (reached : List Bool) (row : List ℕ) (c : ℕ) → IsIn c row → leads b reached c ≡ true → calls_toward b reached row ≡ true
toward_by b reached [] c i e = absurd i
toward_by b reached (d ∷ ds) c (inl p) e = ap (λ x. x || calls_toward b reached ds) (ap (leads b reached) p ∙ e)
toward_by b reached (d ∷ ds) c (inr i) e = ap (λ x. leads b reached d || x) (toward_by b reached ds c i e) ∙ or_right (leads b reached d)

leads_itself : (b : ℕ) (reached : List Bool) → Tells b b → leads b reached b ≡ true
leads_itself b reached (inl (p, q)) = ap (λ x. x || option_map_or is_true (slice_get reached b) false) p
leads_itself b reached (inr (p, q)) = absurd (q refl)

leads_by : (b : ℕ) (reached : List Bool) (c : ℕ) → slice_get reached c ≡ Some true → leads b reached c ≡ true
leads_by b reached c e = ap (λ (o : Option Bool). nat_eq c b || option_map_or is_true o false) e ∙ or_right (nat_eq c b)

-- a mark is set where the row leads there
set_by : (rs : List (List ℕ)) (b k a : ℕ) (row : List ℕ) → slice_get rs a ≡ Some row → calls_toward b (reaching rs b k) row ≡ true → slice_get (reaching rs b (suc k)) a ≡ Some true
set_by rs b k a row is e =
    slice_get-map (calls_toward b (reaching rs b k)) rs a ∙ (ap (option_map (calls_toward b (reaching rs b k))) is ∙ ap (λ (x : Bool). Some x) e)

abbrev Marked : List (List ℕ) → ℕ → ℕ → Type 0
Marked rs b a = (k : ℕ) × (slice_get (reaching rs b k) a ≡ Some true)

marked_by : (rs : List (List ℕ)) (b a : ℕ) → Reaches rs b a → Marked rs b a
marked_by rs b _ (calls_it a (row, is, i)) = (1, set_by rs b 0 a row is (toward_by b (reaching rs b 0) row b i (leads_itself b (reaching rs b 0) (tells b b))))
marked_by rs b _ (leads_to_it a c (row, is, i) r) =
    let (k, e) = marked_by rs b c r in
    (suc k, set_by rs b k a row is (toward_by b (reaching rs b k) row c i (leads_by b (reaching rs b k) c e)))

recursive_by : (rs : List (List ℕ)) (b c : ℕ) → Calls rs b c → leads b (reaching rs b (length rs)) c ≡ true → is_recursive rs b ≡ true
recursive_by rs b c (row, is, i) e =
    ap (λ (o : Option (List ℕ)). option_map_or (calls_toward b (reaching rs b (length rs))) o false) is ∙ toward_by b (reaching rs b (length rs)) row c i e

all_from : (rs : List (List ℕ)) (b a : ℕ) → a ≡ b → Reaches rs b a → is_recursive rs b ≡ true
all_from rs b _ same (calls_it a r) = recursive_by rs b b (subst (λ x. Calls rs x b) same r) (leads_itself b (reaching rs b (length rs)) (tells b b))
all_from rs b _ same (leads_to_it a c r further) =
    let (k, e) = marked_by rs b c further in
    recursive_by rs b c (subst (λ x. Calls rs x c) same r) (leads_by b (reaching rs b (length rs)) c (enough rs b k c e))

pub all : (rs : List (List ℕ)) (b : ℕ) → Reaches rs b b → is_recursive rs b ≡ true
all rs b r = all_from rs b b refl r
