-- Laws of numbers of rows.
use Rattle.std.specs.Prelude.{◌≡◌, ℕ, zero, suc, ◌+◌, ◌<◌, List, [], ◌∷◌, ◌++◌, Some, map, slice_get, length, refl}
use Rattle.std.proofs.Common.{sym, ap, ◌∙◌, subst, arith, append_assoc, append-nil}
use Rattle.std.proofs.lemmas.Grind.{common_steps}
use Rattle.std.proofs.lemmas.List.Elements.{All-weaker, All-push}
use Rattle.lin_rows.specs.declared.row.Row.{Row}
use Rattle.lin_rows.specs.declared.step.ComboStep.{ComboStep}
use Rattle.lin_solver.specs.Numbers.{numbered, HasRow, HaveRows, IsPrefix}

pub get_within : {X : Type 0} (xs : List X) (i : ℕ) (x : X) → slice_get xs i ≡ Some x → i < length xs
get_within [] i x e = absurd (cc)
get_within (y ∷ ys) zero x e = omega arith
get_within (y ∷ ys) (suc i) x e = let lt = get_within ys i x e in omega arith

pub get_front : {X : Type 0} (xs ys : List X) (i : ℕ) (x : X) → slice_get xs i ≡ Some x → slice_get (xs ++ ys) i ≡ Some x
get_front [] ys i x e = absurd (cc)
get_front (y ∷ xs) ys zero x e = e
get_front (y ∷ xs) ys (suc i) x e = get_front xs ys i x e

pub get_back : {X : Type 0} (xs ys : List X) (i n : ℕ) (x : X) → n ≡ length xs + i → slice_get ys i ≡ Some x → slice_get (xs ++ ys) n ≡ Some x
get_back [] ys i n x is e = let same : n ≡ i = omega (arith, is) in rw same e
get_back (y ∷ xs) ys i zero x is e = absurd (omega (arith, is))
get_back (y ∷ xs) ys i (suc n) x is e = get_back xs ys i n x (omega (arith, is)) e

pub get_map : {X Y : Type 0} (f : X → Y) (xs : List X) (i : ℕ) (x : X) → slice_get xs i ≡ Some x → slice_get (map f xs) i ≡ Some (f x)
get_map f [] i x e = absurd (cc)
get_map f (y ∷ xs) zero x e = let same : y ≡ x = cc in ap (λ z. Some (f z)) same
get_map f (y ∷ xs) (suc i) x e = get_map f xs i x e

pub map_length : {X Y : Type 0} (f : X → Y) (xs : List X) → length (map f xs) ≡ length xs
map_length f [] = refl
map_length f (x ∷ xs) = ap suc (map_length f xs)

pub numbered_length : (rows : List Row) (steps : List ComboStep) → length (numbered rows steps) ≡ length rows + length steps
numbered_length rows steps = grind (arith, common_steps)

-- the number of a row is within
pub has_within : (rows : List Row) (steps : List ComboStep) (P : Row → Type 0) (i : ℕ) → HasRow rows steps P i → i < length rows + length steps
has_within rows steps P i (r, e, p) =
    let lt = get_within (numbered rows steps) i (Some r) e in
    let is = numbered_length rows steps in
    omega arith

-- a number has one row
pub one_row : (rows : List Row) (steps : List ComboStep) (P : Row → Type 0) (i : ℕ) (r : Row) → slice_get (numbered rows steps) i ≡ Some (Some r) → HasRow rows steps P i → P r
one_row rows steps P i r e (s, f, p) = let same : s ≡ r = cc in subst P same p

-- the number of a row handed in, and that of a step
pub at_given : (rows : List Row) (steps : List ComboStep) (i : ℕ) (r : Row) → slice_get rows i ≡ Some r → slice_get (numbered rows steps) i ≡ Some (Some r)
at_given rows steps i r e =
    get_front (map Some rows) (map (λ s. Some s.row) steps) i (Some r) (get_map Some rows i r e)

pub at_step : (rows : List Row) (steps : List ComboStep) (i n : ℕ) (s : ComboStep) → n ≡ length rows + i → slice_get steps i ≡ Some s → slice_get (numbered rows steps) n ≡ Some (Some s.row)
at_step rows steps i n s is e =
    get_back (map Some rows) (map (λ t. Some t.row) steps) i n (Some s.row) (is ∙ ap (λ (m : ℕ). m + i) (sym (map_length Some rows))) (get_map (λ t. Some t.row) steps i s e)

-- more steps leave the numbers as they are
mapped : (ss ts : List ComboStep) → map (λ s. Some s.row) (ss ++ ts) ≡ map (λ s. Some s.row) ss ++ map (λ s. Some s.row) ts
mapped [] ts = refl
mapped (s ∷ ss) ts = ap (λ z. Some s.row ∷ z) (mapped ss ts)

pub numbered_grows : (rows : List Row) (ss ts : List ComboStep) → numbered rows (ss ++ ts) ≡ numbered rows ss ++ map (λ s. Some s.row) ts
numbered_grows rows ss ts =
    ap (λ z. map Some rows ++ z) (mapped ss ts) ∙ sym (append_assoc (map Some rows) (map (λ s. Some s.row) ss) (map (λ s. Some s.row) ts))

pub at_grows : (rows : List Row) (old new : List ComboStep) (i : ℕ) (r : Row) → IsPrefix old new → slice_get (numbered rows old) i ≡ Some (Some r) → slice_get (numbered rows new) i ≡ Some (Some r)
at_grows rows old new i r (ts, is) e =
    let whole : numbered rows new ≡ numbered rows old ++ map (λ s. Some s.row) ts = ap (numbered rows) is ∙ numbered_grows rows old ts in
    rw whole (get_front (numbered rows old) (map (λ s. Some s.row) ts) i (Some r) e)

pub has_grows : (rows : List Row) (old new : List ComboStep) (P : Row → Type 0) (i : ℕ) → IsPrefix old new → HasRow rows old P i → HasRow rows new P i
has_grows rows old new P i p (r, e, q) = (r, at_grows rows old new i r p e, q)

-- a row with a property has a weaker one
pub has_weaker : (rows : List Row) (steps : List ComboStep) (P Q : Row → Type 0) (i : ℕ) → ((r : Row) → P r → Q r) → HasRow rows steps P i → HasRow rows steps Q i
has_weaker rows steps P Q i f (r, e, p) = (r, e, f r p)

pub have_grows : (rows : List Row) (old new : List ComboStep) (P : Row → Type 0) (is : List ℕ) → IsPrefix old new → HaveRows rows old P is → HaveRows rows new P is
have_grows rows old new P is p h =
    All-weaker (HasRow rows old P) (HasRow rows new P) (λ i q. has_grows rows old new P i p q) is h

pub have_weaker : (rows : List Row) (steps : List ComboStep) (P Q : Row → Type 0) (is : List ℕ) → ((r : Row) → P r → Q r) → HaveRows rows steps P is → HaveRows rows steps Q is
have_weaker rows steps P Q is f h =
    All-weaker (HasRow rows steps P) (HasRow rows steps Q) (λ i q. has_weaker rows steps P Q i f q) is h

-- one number more, over more steps
pub have_more : (rows : List Row) (old new : List ComboStep) (P : Row → Type 0) (is : List ℕ) (i : ℕ) → IsPrefix old new → HaveRows rows old P is → HasRow rows new P i → HaveRows rows new P (is ++ i ∷ [])
have_more rows old new P is i p h q =
    All-push (HasRow rows new P) is i (have_grows rows old new P is p h) q

pub prefix_same : {X : Type 0} (xs : List X) → IsPrefix xs xs
prefix_same xs = ([], sym (append-nil xs))

pub prefix_trans : {X : Type 0} (xs ys zs : List X) → IsPrefix xs ys → IsPrefix ys zs → IsPrefix xs zs
prefix_trans xs ys zs p q = (p.0 ++ q.0, q.1 ∙ ap (λ z. z ++ q.0) p.1 ∙ append_assoc xs p.0 q.0)

pub prefix_more : {X : Type 0} (xs ys zs : List X) (z : X) → zs ≡ ys ++ z ∷ [] → IsPrefix xs ys → IsPrefix xs zs
prefix_more xs ys zs z is p = prefix_trans xs ys zs p (z ∷ [], is)
