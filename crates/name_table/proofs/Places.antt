-- The first place of a name in a list that grows.
use Rattle.std.proofs.Common.{ℕ, ◌≡◌, ◌≤◌, ◌+◌, ◌++◌, ◌||◌, not, List, [], ◌∷◌, length, Option, Some, None, Bool, true, false, cond, nat_lt, position, bytes_eq, arith, refl, sym, ap, subst, ◌∙◌, is_some, true≢false, IfSome, ◌<◌}
use Rattle.std.specs.List.{position_or_len, list_any, position_from}
use Rattle.std.specs.Option.{unwrap_or}
use Rattle.std.specs.Cmp.Lexicographic.{bytes_decides}
use Rattle.std.specs.Map.{lookup}
use Rattle.std.proofs.lemmas.Bool.{ltb-false, ltb-true}
use Rattle.std.proofs.lemmas.Iterator.Adapters.{position_from-zero}
use Rattle.std.proofs.lemmas.List.Sums.{prefix_len-le-length}
use Rattle.name_table.specs.Names.{place_or}

or_length_at : (b : Bool) (n len : ℕ) → b ≡ nat_lt n len → n ≤ len → unwrap_or (cond b (Some n) None) len ≡ n
or_length_at true n len e le = refl
or_length_at false n len e le = omega (arith, ltb-false n len (sym e), le)

pub or_length : {X : Type 0} (p : X → Bool) (xs : List X) → unwrap_or (position p xs) (length xs) ≡ position_or_len p xs
or_length p xs = or_length_at (nat_lt (position_or_len p xs) (length xs)) (position_or_len p xs) (length xs) refl (prefix_len-le-length (λ x. not (p x)) xs)

or_behind : (b : Bool) (i : ℕ) (r : Option ℕ) (same : Bool) (next : ℕ) → place_or (cond b (Some i) r) same next ≡ cond b (Some i) (place_or r same next)
or_behind true i r same next = refl
or_behind false i r same next = refl

some_behind : (b : Bool) (i : ℕ) (r : Option ℕ) → is_some (cond b (Some i) r) ≡ (b || is_some r)
some_behind true i r = refl
some_behind false i r = refl

push_from : {X : Type 0} (p : X → Bool) (i : ℕ) (xs : List X) (x : X) (next : ℕ) → next ≡ i + length xs → position_from p i (xs ++ x ∷ []) ≡ place_or (position_from p i xs) (p x) next
push_from p i [] x next e = ap (λ n. cond (p x) (Some n) None) (omega (arith, e))
push_from p i (y ∷ ys) x next e =
    ap (cond (p y) (Some i)) (push_from p (i + 1) ys x next (omega (arith, e))) ∙ sym (or_behind (p y) i (position_from p (i + 1) ys) (p x) next)

pub position_push : {X : Type 0} (p : X → Bool) (xs : List X) (x : X) → position p (xs ++ x ∷ []) ≡ place_or (position p xs) (p x) (length xs)
position_push p xs x =
    position_from-zero p (xs ++ x ∷ []) ∙ push_from p 0 xs x (length xs) (omega arith) ∙ ap (λ r. place_or r (p x) (length xs)) (sym (position_from-zero p xs))

found_from : {X : Type 0} (p : X → Bool) (i : ℕ) (xs : List X) → is_some (position_from p i xs) ≡ list_any p xs
found_from p i [] = refl
found_from p i (x ∷ xs) = some_behind (p x) i (position_from p (i + 1) xs) ∙ ap (λ b. p x || b) (found_from p (i + 1) xs)

pub is_found : {X : Type 0} (p : X → Bool) (xs : List X) → is_some (position p xs) ≡ list_any p xs
is_found p xs = ap is_some (position_from-zero p xs) ∙ found_from p 0 xs

-- the map with one more entry at its end
pub lookup_push : {K : Type 0} (test : K → Bool) (es : List (K × ℕ)) (k : K) (v : ℕ) → lookup test (es ++ (k, v) ∷ []) ≡ place_or (lookup test es) (test k) v
lookup_push test [] k v = refl
lookup_push test (e ∷ es) k v = ap (cond (test e.0) (Some e.1)) (lookup_push test es k v) ∙ sym (or_behind (test e.0) e.1 (lookup test es) (test k) v)

-- A name that has a place keeps it.
kept_by : (r : Option ℕ) (same : Bool) (next : ℕ) → (same ≡ true → is_some r ≡ true) → r ≡ place_or r same next
kept_by (Some at) same next h = refl
kept_by None true next h = absurd (true≢false (sym (h refl)))
kept_by None false next h = refl

pub kept : (place : List ℕ → Option ℕ) (name n : List ℕ) (next : ℕ) → is_some (place name) ≡ true → place n ≡ place_or (place n) (bytes_eq n name) next
kept place name n next h = kept_by (place n) (bytes_eq n name) next (λ e. subst (λ m. is_some (place m) ≡ true) (sym ((bytes_decides n name).0 e)) h)

pub none_at : {X : Type 0} (r : Option X) → false ≡ is_some r → r ≡ None
none_at None e = refl
none_at (Some x) e = absurd (true≢false (sym e))

within_at : (b : Bool) (i len : ℕ) → b ≡ nat_lt i len → IfSome (cond b (Some i) None) (λ at. at < len)
within_at true i len e = ltb-true i len (sym e)
within_at false i len e = tt

pub within : {X : Type 0} (p : X → Bool) (xs ys : List X) (r : Option ℕ) → r ≡ position p xs → xs ≡ ys → IfSome r (λ at. at < length ys)
within p xs ys r e same =
    subst (λ zs. IfSome r (λ at. at < length zs)) same
    (subst (λ q. IfSome q (λ at. at < length xs)) (sym e) (within_at (nat_lt (position_or_len p xs) (length xs)) (position_or_len p xs) (length xs) refl))

-- the place of each name, once one more is pushed
pub pushed : (name n key : List ℕ) (list now : List (List ℕ)) (before old new : Option ℕ) (place : ℕ) → old ≡ position (bytes_eq n) list → before ≡ old → key ≡ name → place ≡ length list
    → now ≡ list ++ name ∷ [] → new ≡ place_or before (bytes_eq n key) place → new ≡ position (bytes_eq n) now
pushed name n key list now before old new place e1 e0 e2 e3 e4 e5 =
    e5 ∙ (λ i. place_or ((e0 ∙ e1) i) (bytes_eq n (e2 i)) (e3 i)) ∙ sym (position_push (bytes_eq n) list name) ∙ ap (position (bytes_eq n)) (sym e4)
