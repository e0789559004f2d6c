-- How many instances there are at arguments that are None or one of so many objects.
use Rattle.std.specs.Prelude.{◌≡◌, ◌⊎◌, ℕ, zero, suc, ◌+◌, ◌*◌, ◌^◌, ◌≤◌, ◌<◌, Bool, true, false, List, [], ◌∷◌, ◌++◌, map, All, length, sum, Some, slice_get, refl}
use Rattle.std.proofs.Common.{sym, ap, ◌∙◌, subst, inl, inr, arith}
use Rattle.std.proofs.Math.Nat.{pow-zero, pow-succ', suc-mul}
use Rattle.std.proofs.lemmas.Bool.{cases_eq}
use Rattle.std.proofs.lemmas.List.{length-map, length-append}
use Rattle.std.proofs.lemmas.List.Elements.{All-head, All-tail}
use Rattle.std.proofs.lemmas.List.Sums.{sum_by-cons}
use Rattle.py_syntax.specs.declared.Value.{Value}
use Rattle.py_syntax.specs.declared.Value.TheVariants.{Num, Truth, Nil, Ref}
use Rattle.py_syntax.specs.declared.Pred.{Pred}
use Rattle.machine_model.specs.Reading.{Opened}
use Rattle.machine_laws.specs.Depths.{IsObject}

-- membership
abbrev pub In : {A : Type 0} → A → List A → Type 0
In x [] = ⊥
In x (y ∷ ys) = (x ≡ y) ⊎ In x ys

in_left : {A : Type 0} (x : A) (ys zs : List A) → In x ys → In x (ys ++ zs)
in_left x [] zs h = absurd h
in_left x (y ∷ ys) zs (inl e) = inl e
in_left x (y ∷ ys) zs (inr h) = inr (in_left x ys zs h)

in_right : {A : Type 0} (x : A) (ys zs : List A) → In x zs → In x (ys ++ zs)
in_right x [] zs h = h
in_right x (y ∷ ys) zs h = inr (in_right x ys zs h)

in_map : {A B : Type 0} (f : A → B) (x : A) (ys : List A) → In x ys → In (f x) (map f ys)
in_map f x [] h = absurd h
in_map f x (y ∷ ys) (inl e) = inl (ap f e)
in_map f x (y ∷ ys) (inr h) = inr (in_map f x ys h)

-- None and the references to so many objects
abbrev objects_of : ℕ → List Value
objects_of zero = Nil ∷ []
objects_of (suc n) = Ref n ∷ objects_of n

count_objects : (n : ℕ) → length (objects_of n) ≡ suc n
count_objects zero = refl
count_objects (suc n) = ap (λ k. suc k) (count_objects n)

object_in : (n : ℕ) (v : Value) → IsObject n v → In v (objects_of n)
object_in zero Nil h = inl refl
object_in (suc n) Nil h = inr (object_in n Nil tt)
object_in zero (Ref r) h = absurd (omega arith)
object_in (suc n) (Ref r) h = elim (cases_eq r n) as (λ _. In (Ref r) (objects_of (suc n))) [
  | inl e ↦ inl (ap (λ k. Ref k) e)
  | inr other ↦ inr (object_in n (Ref r) (omega arith))
]
object_in n (Num z) h = absurd h
object_in n (Truth b) h = absurd h

-- lists that begin with one of these and go on with one of those
abbrev begun : List Value → List (List Value) → List (List Value)
begun [] lists = []
begun (v ∷ vs) lists = map (λ (l : List Value). v ∷ l) lists ++ begun vs lists

count_begun : (vs : List Value) (lists : List (List Value)) → length (begun vs lists) ≡ length vs * length lists
count_begun [] lists = omega arith
count_begun (v ∷ vs) lists =
    length-append (map (λ (l : List Value). v ∷ l) lists) (begun vs lists)
    ∙ ap (λ n. n + length (begun vs lists)) (length-map lists (λ l. v ∷ l))
    ∙ ap (λ n. length lists + n) (count_begun vs lists)
    ∙ rearranged (length vs) (length lists)
  where
    rearranged : (n k : ℕ) → k + n * k ≡ suc n * k
    rearranged n k = let e : suc n * k ≡ n * k + k = suc-mul n k in omega arith

begun_in : (v : Value) (l : List Value) (vs : List Value) (lists : List (List Value)) → In v vs → In l lists → In (v ∷ l) (begun vs lists)
begun_in v l [] lists h k = absurd h
begun_in v l (w ∷ vs) lists (inl e) k = in_left (v ∷ l) (map (λ (x : List Value). w ∷ x) lists) (begun vs lists)
    (subst (λ u. In (u ∷ l) (map (λ (x : List Value). w ∷ x) lists)) (sym e) (in_map (λ (x : List Value). w ∷ x) l lists k))
begun_in v l (w ∷ vs) lists (inr h) k = in_right (v ∷ l) (map (λ (x : List Value). w ∷ x) lists) (begun vs lists) (begun_in v l vs lists h k)

abbrev lists_of : ℕ → ℕ → List (List Value)
lists_of n zero = [] ∷ []
lists_of n (suc k) = begun (objects_of n) (lists_of n k)

count_lists : (n k : ℕ) → length (lists_of n k) ≡ suc n ^ k
count_lists n zero = sym (pow-zero (suc n))
count_lists n (suc k) =
    count_begun (objects_of n) (lists_of n k)
    ∙ ap (λ x. x * length (lists_of n k)) (count_objects n)
    ∙ ap (λ x. suc n * x) (count_lists n k)
    ∙ sym (pow-succ' (suc n) k)

list_in : (n k : ℕ) (vs : List Value) → length vs ≡ k → All (IsObject n) vs → In vs (lists_of n k)
list_in n zero [] is h = inl refl
list_in n zero (v ∷ vs) is h = absurd (omega arith)
list_in n (suc k) [] is h = absurd (omega arith)
list_in n (suc k) (v ∷ vs) is h = begun_in v vs (objects_of n) (lists_of n k) (object_in n v (All-head (IsObject n) v vs h)) (list_in n k vs (omega arith) (All-tail (IsObject n) v vs h))

-- an instance, by its predicate and its arguments
abbrev pub instance : ℕ → List Value → Opened
instance q vs = (q, vs)

-- the instances of these predicates, from the one of this number on
abbrev pub instances_from : ℕ → ℕ → List Pred → List Opened
instances_from n i [] = []
instances_from n i (p ∷ ps) = map (instance i) (lists_of n (length p.params)) ++ instances_from n (suc i) ps

abbrev powers : ℕ → List Pred → List ℕ
powers n ps = map (λ (p : Pred). suc n ^ length p.params) ps

pub count_instances : (n i : ℕ) (ps : List Pred) → length (instances_from n i ps) ≡ sum (powers n ps)
count_instances n i [] = refl
count_instances n i (p ∷ ps) =
    length-append (map (instance i) (lists_of n (length p.params))) (instances_from n (suc i) ps)
    ∙ ap (λ k. k + length (instances_from n (suc i) ps)) (length-map (lists_of n (length p.params)) (instance i) ∙ count_lists n (length p.params))
    ∙ ap (λ k. suc n ^ length p.params + k) (count_instances n (suc i) ps)
    ∙ sym (sum_by-cons (λ (x : ℕ). x) (suc n ^ length p.params) (powers n ps))

pub instance_in : (n i q : ℕ) (ps : List Pred) (pred : Pred) (vs : List Value) → slice_get ps q ≡ Some pred → length vs ≡ length pred.params → All (IsObject n) vs → In (instance (i + q) vs) (instances_from n i ps)
instance_in n i q [] pred vs is len h = cc
instance_in n i zero (p ∷ ps) pred vs is len h =
    let same : p ≡ pred = cc in
    let taken : length vs ≡ length p.params = len ∙ ap (λ (x : Pred). length x.params) (sym same) in
    let at : i ≡ i + zero = omega arith in
    in_left (instance (i + zero) vs) (map (instance i) (lists_of n (length p.params))) (instances_from n (suc i) ps)
    (subst (λ k. In (instance k vs) (map (instance i) (lists_of n (length p.params)))) at
    (in_map (instance i) vs (lists_of n (length p.params)) (list_in n (length p.params) vs taken h)))
instance_in n i (suc q) (p ∷ ps) pred vs is len h =
    let at : suc i + q ≡ i + suc q = omega arith in
    in_right (instance (i + suc q) vs) (map (instance i) (lists_of n (length p.params))) (instances_from n (suc i) ps)
    (subst (λ k. In (instance k vs) (instances_from n (suc i) ps)) at (instance_in n (suc i) q ps pred vs is len h))

-- how many pass a test
abbrev one_if : Bool → ℕ → ℕ
one_if true n = suc n
one_if false n = n

abbrev pub passing : {A : Type 0} → (A → Bool) → List A → ℕ
passing p [] = 0
passing p (x ∷ xs) = one_if (p x) (passing p xs)

pub passing_at_most : {A : Type 0} (p : A → Bool) (xs : List A) → passing p xs ≤ length xs
passing_at_most p [] = omega arith
passing_at_most p (x ∷ xs) = of_test (p x) (passing p xs) (length xs) (passing_at_most p xs)
  where
    of_test : (b : Bool) (n k : ℕ) → n ≤ k → one_if b n ≤ suc k
    of_test true n k h = omega arith
    of_test false n k h = omega arith

-- no more pass the second test than the first
abbrev pub NoMore : {A : Type 0} → (A → Bool) → (A → Bool) → List A → Type 0
NoMore p q [] = Unit {0}
NoMore p q (x ∷ xs) = (q x ≡ true → p x ≡ true) × NoMore p q xs

pub no_more_at : {A : Type 0} (p q : A → Bool) (xs : List A) (x : A) → NoMore p q xs → In x xs → q x ≡ true → p x ≡ true
no_more_at p q [] x h k e = absurd k
no_more_at p q (y ∷ xs) x h (inl is) e = ap p is ∙ h.0 (ap q (sym is) ∙ e)
no_more_at p q (y ∷ xs) x h (inr k) e = no_more_at p q xs x h.1 k e

-- where what passes the first test passes the second, either as many pass both, or more pass the second
pub no_more_or_more : {A : Type 0} (p q : A → Bool) (xs : List A) → ((x : A) → p x ≡ true → q x ≡ true) → (NoMore p q xs × (passing p xs ≤ passing q xs)) ⊎ (passing p xs < passing q xs)
no_more_or_more p q [] h = inl (tt, omega arith)
no_more_or_more p q (x ∷ xs) h = of_tests (p x) (q x) (passing p xs) (passing q xs) (NoMore p q xs) (h x) (no_more_or_more p q xs h)
  where
    of_tests : (b c : Bool) (n k : ℕ) (K : Type 0) → (b ≡ true → c ≡ true) → (K × (n ≤ k)) ⊎ (n < k) → (((c ≡ true → b ≡ true) × K) × (one_if b n ≤ one_if c k)) ⊎ (one_if b n < one_if c k)
    of_tests true true n k K h (inl found) = inl (((λ e. refl), found.0), omega arith)
    of_tests true true n k K h (inr less) = inr (omega arith)
    of_tests false false n k K h (inl found) = inl (((λ e. e), found.0), omega arith)
    of_tests false false n k K h (inr less) = inr (omega arith)
    of_tests false true n k K h (inl found) = inr (omega arith)
    of_tests false true n k K h (inr less) = inr (omega arith)
    of_tests true false n k K h found = let never : false ≡ true = h refl in cc
