-- The applications of a sorted condition are of numbers.
use Rattle.std.specs.Prelude.{◌≡◌, ℕ, Bool, true, false, ◌&&◌, ◌||◌, ◌⊎◌, IsTrue, List, [], ◌∷◌, ◌++◌, map, All, Contains}
use Rattle.std.proofs.Common.{refl, ap, sym, subst, ◌∙◌, inl, inr}
use Rattle.std.proofs.lemmas.List.Elements.{All-nil, All-cons, All-append, All-contains, All-weaker, Contains-append_cases}
use Rattle.terms.specs.declared.Term.{Term, Term-F, App, fold-roll-Term, ind-Term, map-Term, out-Term, roll-Term, roll-out-Term, out-roll-Term}
use Rattle.terms.specs.declared.Literal.{Literal}
use Rattle.terms.specs.declared.Literal.TheVariants as lit
use Rattle.terms.specs.Fitting.{Application, Applies, sides_of, within_sides}
use Rattle.terms.specs.Sorts.{of_numbers, of_references, of_one_sort, sorted, number_step, reference_form, every, some_and_every}
use Rattle.terms.specs.Within.{terms_within, joined, parts_of}
use Rattle.proof_checker.specs.declared.Condition.{Condition}
use Rattle.proof_checker.specs.Conditions.{literals_of, IsSorted}
use Rattle.proof_checker.specs.Derivations.{AreNumbers}
use Rattle.proof_checker.proofs.Counting.{within_is, below_is, out-App}
use Rattle.cond_plan.specs.declared.plan.Applied.{Applied}
use Rattle.cond_plan.specs.Applied.{application_of}
use Rattle.cond_plan.specs.Plans.{IsPlaced, AreOfNumbers}
use Rattle.cond_plan.proofs.Places.{none_there, there_at, by_place}

abbrev IsNumber : Term → Type 0
IsNumber t = IsTrue (of_numbers t)

pub both : (a b : Bool) → IsTrue (a && b) → IsTrue a × IsTrue b
both true b h = (refl, h)
both false b h = absurd (cc)

either : (a b : Bool) → IsTrue (a || b) → IsTrue a ⊎ IsTrue b
either true b h = inl refl
either false b h = inr h

-- ---- the terms within a term of numbers
abbrev AreWithin : Term → Type 0
AreWithin t = IsNumber t → All IsNumber (terms_within t)

abbrev Known : Type 0
Known = (t : Term) × AreWithin t

abbrev terms_of : List Known → List Term
terms_of all = map (λ e. e.0) all

abbrev form_of : Term-F Known → Term-F Term
form_of y = map-Term Known Term (λ e. e.0) y

abbrev below : Term-F Term → List Term
below x = parts_of (map-Term Term (List Term) terms_within x)

some_every : (bs : List Bool) → IsTrue (some_and_every bs) → IsTrue (every bs)
some_every [] h = absurd (cc)
some_every (b ∷ bs) h = h

all_within : (all : List Known) → IsTrue (every (map of_numbers (terms_of all))) → All IsNumber (joined (map terms_within (terms_of all)))
all_within [] h = All-nil IsNumber
all_within (e ∷ all) h =
    let (first, more) = both (of_numbers e.0) (every (map of_numbers (terms_of all))) h in
    All-append IsNumber (terms_within e.0) (joined (map terms_within (terms_of all))) (e.1 first) (all_within all more)

layer : (y : Term-F Known) → IsTrue (number_step (map-Term Term Bool of_numbers (form_of y))) → All IsNumber (below (form_of y))
layer (Term-F.Sym n) h = All-nil IsNumber
layer (Term-F.Lit z) h = All-nil IsNumber
layer (Term-F.Add a b) h =
    let (first, second) = both (of_numbers a.0) (of_numbers b.0) h in
    All-append IsNumber (terms_within a.0) (terms_within b.0) (a.1 first) (b.1 second)
layer (Term-F.Scale k a) h = a.1 h
layer (Term-F.App operator all) h = all_within all (some_every (map of_numbers (terms_of all)) h)
layer (Term-F.RefSym n) h = All-nil IsNumber
layer (Term-F.RefLit n) h = All-nil IsNumber
layer Term-F.Nil h = All-nil IsNumber

rolled : (x : Term-F Term) → (IsTrue (number_step (map-Term Term Bool of_numbers x)) → All IsNumber (below x)) → AreWithin (roll-Term x)
rolled x h k =
    let t = roll-Term x in
    let parts : All IsNumber (below x) = h (sym (fold-roll-Term Bool number_step x) ∙ k) in
    let is : terms_within t ≡ t ∷ below x = within_is t ∙ ap (λ ts. t ∷ ts) (below_is t x (out-roll-Term x)) in
    subst (All IsNumber) (sym is) (All-cons IsNumber t (below x) k parts)

within_numbers : (t : Term) → AreWithin t
within_numbers = ind-Term AreWithin (λ x y is. subst (λ z. AreWithin (roll-Term z)) is (rolled (form_of y) (layer y)))

-- ---- the terms within a reference
reference_below : (x : Term-F Term) → IsTrue (reference_form x) → below x ≡ []
reference_below (Term-F.RefSym n) h = refl
reference_below (Term-F.RefLit n) h = refl
reference_below Term-F.Nil h = refl
reference_below (Term-F.Sym n) h = absurd (cc)
reference_below (Term-F.Lit z) h = absurd (cc)
reference_below (Term-F.Add a b) h = absurd (cc)
reference_below (Term-F.Scale k a) h = absurd (cc)
reference_below (Term-F.App operator all) h = absurd (cc)

no_application : (t : Term) (f : Application) → Applies t f → ¬ (IsTrue (of_references t))
no_application t f is h =
    let off : of_references t ≡ false = ap of_references is ∙ ap reference_form (out-App f.operator (f.operands ++ f.result ∷ [])) in
    absurd (cc (h, off))

within_reference : (a t : Term) (f : Application) → IsTrue (of_references a) → Contains (terms_within a) t → ¬ (Applies t f)
within_reference a t f r h is =
    let only : terms_within a ≡ a ∷ [] = within_is a ∙ ap (λ ts. a ∷ ts) (reference_below (out-Term a) r) in
    by_place ⊥ a [] t (λ e. no_application t f is (subst (λ z. IsTrue (of_references z)) e r)) (none_there t) (subst (λ ts. Contains ts t) only h)

-- ---- applications in sorted literals
abbrev OfOneKind : Term → Type 0
OfOneKind a = IsTrue (of_numbers a) ⊎ IsTrue (of_references a)

one_kind : (a b : Term) → IsTrue (of_one_sort a b) → OfOneKind a × OfOneKind b
one_kind a b h = elim (either (of_numbers a && of_numbers b) (of_references a && of_references b) h) [
  | inl n ↦ let (p, q) = both (of_numbers a) (of_numbers b) n in (inl p, inl q)
  | inr r ↦ let (p, q) = both (of_references a) (of_references b) r in (inr p, inr q)
]

in_side : (a t : Term) (f : Application) → OfOneKind a → Contains (terms_within a) t → Applies t f → IsNumber t
in_side a t f (inl n) h is = All-contains IsNumber (terms_within a) t (within_numbers a n) h
in_side a t f (inr r) h is = absurd (within_reference a t f r h is)

in_sides : (a b t : Term) (f : Application) → OfOneKind a × OfOneKind b → Contains (terms_within a ++ terms_within b) t → Applies t f → IsNumber t
in_sides a b t f (p, q) h is = elim (Contains-append_cases (terms_within a) (terms_within b) t h) [
  | inl first ↦ in_side a t f p first is
  | inr second ↦ in_side b t f q second is
]

in_sorted : (l : Literal) (t : Term) (f : Application) → IsTrue (sorted l) → Contains (within_sides (sides_of l)) t → Applies t f → IsNumber t
in_sorted (lit.AtMost a b) t f s h is =
    let (p, q) = both (of_numbers a) (of_numbers b) s in in_sides a b t f (inl p, inl q) h is
in_sorted (lit.Same a b) t f s h is = in_sides a b t f (one_kind a b s) h is
in_sorted (lit.Apart a b) t f s h is = in_sides a b t f (one_kind a b s) h is
in_sorted (lit.Flag n held) t f s h is = absurd (none_there t h)

abbrev OfNumbers : Application → Type 0
OfNumbers f = AreNumbers f.result f.result × All (λ t. AreNumbers t t) f.operands

own : (t : Term) → IsNumber t → AreNumbers t t
own t h = record { left = h; right = h }

parts_numbers : (xs : List Term) (r : Term) → IsTrue (every (map of_numbers (xs ++ r ∷ []))) → AreNumbers r r × All (λ t. AreNumbers t t) xs
parts_numbers [] r h = (own r (both (of_numbers r) true h).0, All-nil (λ t. AreNumbers t t))
parts_numbers (x ∷ xs) r h =
    let (first, more) = both (of_numbers x) (every (map of_numbers (xs ++ r ∷ []))) h in
    let (last, all) = parts_numbers xs r more in
    (last, All-cons (λ t. AreNumbers t t) x xs (own x first) all)

rolled_App : (operator : ℕ) (all : List Term) → roll-Term (Term-F.App operator all) ≡ App operator all
rolled_App operator all = ap roll-Term (sym (out-App operator all)) ∙ roll-out-Term (App operator all)

applied_numbers : (t : Term) (f : Application) → Applies t f → IsNumber t → OfNumbers f
applied_numbers t f is h =
    let all = f.operands ++ f.result ∷ [] in
    let form : App f.operator all ≡ roll-Term (Term-F.App f.operator all) = sym (rolled_App f.operator all) in
    let test : of_numbers t ≡ some_and_every (map of_numbers all) = ap of_numbers (is ∙ form) ∙ fold-roll-Term Bool number_step (Term-F.App f.operator all) in
    parts_numbers f.operands f.result (some_every (map of_numbers all) (sym test ∙ h))

pub placed_numbers : (c : Condition) (f : Applied) → IsSorted c → IsPlaced c f → OfNumbers (application_of f)
placed_numbers c f s h =
    let l = h.literal in
    let (t, stands, is) = h.stands in
    let sort : IsTrue (sorted l) = All-contains (λ k. IsTrue (sorted k)) (literals_of c) l s (there_at (literals_of c) f.place l h.at_place) in
    elim (Contains-append_cases (within_sides (sides_of l)) [] t stands) [
      | inl inside ↦ applied_numbers t (application_of f) is (in_sorted l t (application_of f) sort inside is)
      | inr gone ↦ absurd (none_there t gone)
    ]

pub all_numbers : (c : Condition) (fs : List Applied) → IsSorted c → All (IsPlaced c) fs → AreOfNumbers fs
all_numbers c fs s h = All-weaker (IsPlaced c) (λ f. OfNumbers (application_of f)) (λ f p. placed_numbers c f s p) fs h
