-- Terms whose equality follows mean the same.
use Rattle.std.specs.Prelude.{◌≡◌, ◌⊎◌, ℕ, suc, Bool, true, false, ◌&&◌, ◌||◌, IsTrue, ℤ, List, [], ◌∷◌, ◌++◌, map, length, All, Contains, Some, slice_get}
use Rattle.std.proofs.Common.{refl, ap, sym, subst, ◌∙◌, inl, inr, rules, arith}
use Rattle.std.proofs.lemmas.List.Elements.{All-head, All-tail, All-contains, Contains-append_cases}
use Rattle.terms.specs.declared.Term.{Term, Term-F, Add, Scale, RefLit, Nil, map-Term, roll-Term, out-Term, ind-Term, fold_out-Term, the_lemmas}
use Rattle.terms.specs.declared.Literal.{Literal}
use Rattle.terms.specs.declared.Literal.TheVariants as lit
use Rattle.terms.specs.Within.{joined, terms_within}
use Rattle.terms.specs.Sorts.{of_numbers, of_references, reference_form, number_step, every, some_and_every, sorted}
use Rattle.terms.specs.Meanings.{Valued, Meaning, Number, Holds, meaning_at, meaning_step, number_at, number_step as number_at_step, last_number, sum_of, multiple_of}
use Rattle.terms.specs.MeaningLaws.{number_meant}
use Rattle.terms.specs.Fitting.{Application, Applies, Fits, terms_in, within_sides, sides_of}
use Rattle.ref_solver.specs.Following.{Stands, Follows, assumed, none, result, applied, sum, multiple, itself, turned, through}
use Rattle.ref_solver.proofs.Standing.{none_in, cons_cases, below, within_is, out-App}

and_left : (a b : Bool) → (a && b) ≡ true → a ≡ true
and_left true b h = refl
and_left false b h = absurd (cc)

and_right : (a b : Bool) → (a && b) ≡ true → b ≡ true
and_right true b h = h
and_right false b h = absurd (cc)

-- what is within a term of numbers is of numbers
abbrev AreNumbers : Term → Type 0
AreNumbers t = of_numbers t ≡ true → (u : Term) → Contains (terms_within t) u → of_numbers u ≡ true

abbrev Known : Type 0
Known = (t : Term) × AreNumbers t

abbrev form_of : Term-F Known → Term-F Term
form_of y = map-Term Known Term (λ e. e.0) y

all_numbers : (all : List Known) → every (map of_numbers (map (λ e. e.0) all)) ≡ true → (u : Term) → Contains (joined (map terms_within (map (λ e. e.0) all))) u → of_numbers u ≡ true
all_numbers [] h u k = absurd (none_in u k)
all_numbers (e ∷ all) h u k =
    let others = every (map of_numbers (map (λ d. d.0) all)) in
    elim (Contains-append_cases (terms_within e.0) (joined (map terms_within (map (λ d. d.0) all))) u k) [
      | inl p ↦ e.1 (and_left (of_numbers e.0) others h) u p
      | inr q ↦ all_numbers all (and_right (of_numbers e.0) others h) u q
    ]

some_numbers : (all : List Known) → some_and_every (map of_numbers (map (λ e. e.0) all)) ≡ true → (u : Term) → Contains (joined (map terms_within (map (λ e. e.0) all))) u → of_numbers u ≡ true
some_numbers [] h u k = absurd (none_in u k)
some_numbers (e ∷ all) h u k = all_numbers (e ∷ all) h u k

numbers_layer : (y : Term-F Known) → number_step (map-Term Term Bool of_numbers (form_of y)) ≡ true → (u : Term) → Contains (below (form_of y)) u → of_numbers u ≡ true
numbers_layer (Term-F.Add a b) h u k =
    elim (Contains-append_cases (terms_within a.0) (terms_within b.0) u k) [
      | inl p ↦ a.1 (and_left (of_numbers a.0) (of_numbers b.0) h) u p
      | inr q ↦ b.1 (and_right (of_numbers a.0) (of_numbers b.0) h) u q
    ]
numbers_layer (Term-F.Scale n a) h u k = a.1 h u k
numbers_layer (Term-F.App operator all) h u k = some_numbers all h u k
numbers_layer (Term-F.Sym n) h u k = absurd (none_in u k)
numbers_layer (Term-F.Lit z) h u k = absurd (none_in u k)
numbers_layer (Term-F.RefSym n) h u k = absurd (none_in u k)
numbers_layer (Term-F.RefLit n) h u k = absurd (none_in u k)
numbers_layer Term-F.Nil h u k = absurd (none_in u k)

-- a term's sort and what is within it, by its form
sort_is : (t : Term) (x : Term-F Term) → out-Term t ≡ x → of_numbers t ≡ number_step (map-Term Term Bool of_numbers x)
sort_is t x e = fold_out-Term Bool number_step t ∙ ap (λ y. number_step (map-Term Term Bool of_numbers y)) e

out-roll : (x : Term-F Term) → out-Term (roll-Term x) ≡ x
out-roll x = search (rules, the_lemmas)

numbers_rolled : (x : Term-F Term) → (number_step (map-Term Term Bool of_numbers x) ≡ true → (u : Term) → Contains (below x) u → of_numbers u ≡ true) → AreNumbers (roll-Term x)
numbers_rolled x s h u k =
    let is : terms_within (roll-Term x) ≡ roll-Term x ∷ below x = within_is (roll-Term x) ∙ ap (λ y. roll-Term x ∷ below y) (out-roll x) in
    elim (cons_cases (roll-Term x) (below x) u (subst (λ ts. Contains ts u) is k)) [
      | inl e ↦ subst (λ t. of_numbers t ≡ true) e h
      | inr p ↦ s (sym (sort_is (roll-Term x) x (out-roll x)) ∙ h) u p
    ]

numbers_within : (t : Term) → AreNumbers t
numbers_within = ind-Term AreNumbers (λ x y is. subst (λ z. AreNumbers (roll-Term z)) is (numbers_rolled (form_of y) (numbers_layer y)))

-- what stands in sorted literals is of numbers or of references
abbrev HasSort : Term → Type 0
HasSort t = (of_numbers t ≡ true) ⊎ (of_references t ≡ true)

no_parts : (x : Term-F Term) → reference_form x ≡ true → below x ≡ []
no_parts (Term-F.RefSym n) h = refl
no_parts (Term-F.RefLit n) h = refl
no_parts Term-F.Nil h = refl
no_parts (Term-F.Sym n) h = absurd (cc)
no_parts (Term-F.Lit z) h = absurd (cc)
no_parts (Term-F.Add a b) h = absurd (cc)
no_parts (Term-F.Scale k a) h = absurd (cc)
no_parts (Term-F.App operator all) h = absurd (cc)

sort_within : (t : Term) → HasSort t → (u : Term) → Contains (terms_within t) u → HasSort u
sort_within t (inl h) u k = inl (numbers_within t h u k)
sort_within t (inr h) u k =
    elim (cons_cases t [] u (subst (λ ts. Contains ts u) (within_is t ∙ ap (λ ts. t ∷ ts) (no_parts (out-Term t) h)) k)) [
      | inl e ↦ inr (subst (λ w. of_references w ≡ true) e h)
      | inr p ↦ absurd (none_in u p)
    ]

one_sort : (a b : Term) (p q r s : Bool) → of_numbers a ≡ p → of_numbers b ≡ q → of_references a ≡ r → of_references b ≡ s → ((p && q) || (r && s)) ≡ true → HasSort a × HasSort b
one_sort a b true true r s e f g h k = (inl e, inl f)
one_sort a b true false true true e f g h k = (inr g, inr h)
one_sort a b false q true true e f g h k = (inr g, inr h)
one_sort a b true false true false e f g h k = absurd (cc)
one_sort a b true false false s e f g h k = absurd (cc)
one_sort a b false q true false e f g h k = absurd (cc)
one_sort a b false q false s e f g h k = absurd (cc)

within_both : (a b : Term) → HasSort a × HasSort b → (u : Term) → Contains (terms_within a ++ terms_within b) u → HasSort u
within_both a b h u k = elim (Contains-append_cases (terms_within a) (terms_within b) u k) [
  | inl p ↦ sort_within a h.0 u p
  | inr q ↦ sort_within b h.1 u q
]

sort_in : (l : Literal) → sorted l ≡ true → (u : Term) → Contains (within_sides (sides_of l)) u → HasSort u
sort_in (lit.AtMost a b) h u k =
    within_both a b (inl (and_left (of_numbers a) (of_numbers b) h), inl (and_right (of_numbers a) (of_numbers b) h)) u k
sort_in (lit.Same a b) h u k =
    within_both a b (one_sort a b (of_numbers a) (of_numbers b) (of_references a) (of_references b) refl refl refl refl h) u k
sort_in (lit.Apart a b) h u k =
    within_both a b (one_sort a b (of_numbers a) (of_numbers b) (of_references a) (of_references b) refl refl refl refl h) u k
sort_in (lit.Flag n held) h u k = absurd (none_in u k)

pub sort_standing : (ls : List Literal) → All (λ l. IsTrue (sorted l)) ls → (u : Term) → Stands ls u → HasSort u
sort_standing [] h u k = absurd (none_in u k)
sort_standing (l ∷ ls) h u k =
    elim (Contains-append_cases (within_sides (sides_of l)) (terms_in ls) u k) [
      | inl p ↦ sort_in l (All-head (λ j. IsTrue (sorted j)) l ls h) u p
      | inr q ↦ sort_standing ls (All-tail (λ j. IsTrue (sorted j)) l ls h) u q
    ]

-- an application of numbers means what its result does
last_every : (front : List Term) (r : Term) → every (map of_numbers (front ++ r ∷ [])) ≡ true → of_numbers r ≡ true
last_every [] r h = and_left (of_numbers r) true h
last_every (t ∷ front) r h =
    last_every front r (and_right (of_numbers t) (every (map of_numbers (front ++ r ∷ []))) h)

last_some : (front : List Term) (r : Term) → some_and_every (map of_numbers (front ++ r ∷ [])) ≡ true → of_numbers r ≡ true
last_some [] r h = last_every [] r h
last_some (t ∷ front) r h = last_every (t ∷ front) r h

last_is : (m : Valued) (front : List Term) (r : Term) → last_number (map (number_at m) (front ++ r ∷ [])) ≡ number_at m r
last_is m [] r = refl
last_is m (t ∷ []) r = refl
last_is m (t ∷ u ∷ front) r = last_is m (u ∷ front) r

not_reference : (t : Term) (operator : ℕ) (all : List Term) → out-Term t ≡ Term-F.App operator all → of_references t ≡ true → ⊥
not_reference t operator all e h =
    let f : reference_form (Term-F.App operator all) ≡ true = sym (ap reference_form e) ∙ h in
    absurd (cc)

number_applied : (m : Valued) (t : Term) (f : Application) → Applies t f → of_numbers t ≡ true → meaning_at m t ≡ meaning_at m f.result
number_applied m t f is h =
    let all : List Term = f.operands ++ f.result ∷ [] in
    let e : out-Term t ≡ Term-F.App f.operator all = ap out-Term is ∙ out-App f.operator all in
    let some : some_and_every (map of_numbers all) ≡ true = sym (sort_is t (Term-F.App f.operator all) e) ∙ h in
    let number : number_at m t ≡ number_at m f.result = fold_out-Term ℤ (number_at_step m) t ∙ ap (λ y. number_at_step m (map-Term Term ℤ (number_at m) y)) e ∙ last_is m f.operands f.result in
    number_meant m t h ∙ ap (λ (z : ℤ). Number z) number ∙ sym (number_meant m f.result (last_some f.operands f.result some))

applied_means : (m : Valued) (t : Term) (f : Application) → Applies t f → HasSort t → meaning_at m t ≡ meaning_at m f.result
applied_means m t f is (inl h) = number_applied m t f is h
applied_means m t f is (inr h) =
    let all : List Term = f.operands ++ f.result ∷ [] in
    absurd (not_reference t f.operator all (ap out-Term is ∙ out-App f.operator all) h)

-- terms made of equal ones
meaning_is : (m : Valued) (t : Term) (x : Term-F Term) → out-Term t ≡ x → meaning_at m t ≡ meaning_step m (map-Term Term Meaning (meaning_at m) x)
meaning_is m t x e = fold_out-Term Meaning (meaning_step m) t ∙ ap (λ y. meaning_step m (map-Term Term Meaning (meaning_at m) y)) e

pub out-Add : (a b : Term) → out-Term (Add a b) ≡ Term-F.Add a b
out-Add a b = search (rules, the_lemmas)

pub out-Scale : (k : ℤ) (a : Term) → out-Term (Scale k a) ≡ Term-F.Scale k a
out-Scale k a = search (rules, the_lemmas)

pub out-RefLit : (n : ℕ) → out-Term (RefLit n) ≡ Term-F.RefLit n
out-RefLit n = search (rules, the_lemmas)

pub out-Nil : out-Term Nil ≡ Term-F.Nil
out-Nil = search (rules, the_lemmas)

sums_mean : (m : Valued) (a b c d : Term) → meaning_at m a ≡ meaning_at m c → meaning_at m b ≡ meaning_at m d → meaning_at m (Add a b) ≡ meaning_at m (Add c d)
sums_mean m a b c d p q =
    meaning_is m (Add a b) (Term-F.Add a b) (out-Add a b) ∙ ap (λ x. sum_of x (meaning_at m b)) p ∙ ap (λ y. sum_of (meaning_at m c) y) q ∙ sym (meaning_is m (Add c d) (Term-F.Add c d) (out-Add c d))

multiples_mean : (m : Valued) (k : ℤ) (a b : Term) → meaning_at m a ≡ meaning_at m b → meaning_at m (Scale k a) ≡ meaning_at m (Scale k b)
multiples_mean m k a b p =
    meaning_is m (Scale k a) (Term-F.Scale k a) (out-Scale k a) ∙ ap (λ x. multiple_of k x) p ∙ sym (meaning_is m (Scale k b) (Term-F.Scale k b) (out-Scale k b))

none_means : (m : Valued) → meaning_at m Nil ≡ meaning_at m (RefLit 0)
none_means m =
    meaning_is m Nil Term-F.Nil out-Nil ∙ sym (meaning_is m (RefLit 0) (Term-F.RefLit 0) (out-RefLit 0))

all_mean : (m : Valued) (xs ys : List Term) → length xs ≡ length ys → ((k : ℕ) (a b : Term) → slice_get xs k ≡ Some a → slice_get ys k ≡ Some b → meaning_at m a ≡ meaning_at m b) → map (meaning_at m) xs ≡ map (meaning_at m) ys
all_mean m [] [] e h = refl
all_mean m [] (y ∷ ys) e h = absurd (omega arith)
all_mean m (x ∷ xs) [] e h = absurd (omega arith)
all_mean m (x ∷ xs) (y ∷ ys) e h =
    let rest : length xs ≡ length ys = omega arith in
    ap (λ p. p ∷ map (meaning_at m) xs) (h 0 x y refl refl) ∙ ap (λ ps. meaning_at m y ∷ ps) (all_mean m xs ys rest (λ k a b p q. h (suc k) a b p q))

pub same_meaning : (m : Valued) (ls : List Literal) → All (λ l. IsTrue (sorted l)) ls → Fits m ls → All (Holds m) ls → (s t : Term) → Follows ls s t → meaning_at m s ≡ meaning_at m t
same_meaning m ls sorts fits holds _ _ (assumed a b h) =
    All-contains (Holds m) ls (lit.Same a b) holds h
same_meaning m ls sorts fits holds _ _ (none h k) = none_means m
same_meaning m ls sorts fits holds _ _ (result t f h is) =
    applied_means m t f is (sort_standing ls sorts t h)
same_meaning m ls sorts fits holds _ _ (applied t u f g h k is are same long operands) =
    let equal : map (meaning_at m) f.operands ≡ map (meaning_at m) g.operands = all_mean m f.operands g.operands long (λ n a b p q. same_meaning m ls sorts fits holds a b (operands n a b p q)) in
    let results : meaning_at m f.result ≡ meaning_at m g.result = fits.congruent f g (t, h, is) (u, k, are) same equal in
    applied_means m t f is (sort_standing ls sorts t h) ∙ results ∙ sym (applied_means m u g are (sort_standing ls sorts u k))
same_meaning m ls sorts fits holds _ _ (sum a b c d h k p q) =
    sums_mean m a b c d (same_meaning m ls sorts fits holds a c p) (same_meaning m ls sorts fits holds b d q)
same_meaning m ls sorts fits holds _ _ (multiple k a b h j p) =
    multiples_mean m k a b (same_meaning m ls sorts fits holds a b p)
same_meaning m ls sorts fits holds _ _ (itself t h) = refl
same_meaning m ls sorts fits holds _ _ (turned s t p) =
    sym (same_meaning m ls sorts fits holds s t p)
same_meaning m ls sorts fits holds _ _ (through s t u p q) =
    same_meaning m ls sorts fits holds s t p ∙ same_meaning m ls sorts fits holds t u q
