-- Laws of terms that a condition compares.
use Rattle.std.specs.Prelude.{◌≡◌, ℕ, zero, suc, ◌==◌, Bool, true, false, ◌||◌, ◌&&◌, ◌⊎◌, IsTrue, List, [], ◌∷◌, ◌++◌, Contains, Option, Some, None, slice_get}
use Rattle.std.proofs.Common.{refl, ap, sym, subst, ◌∙◌, arith, inl, inr}
use Rattle.std.proofs.lemmas.Bool.Decides.{nat_tests}
use Rattle.std.proofs.lemmas.List.Elements.{Contains-append_left, Contains-append_right, Contains-append_cases, Contains-push, Contains-push_cases}
use Rattle.terms.specs.declared.Term.{Term}
use Rattle.terms.specs.declared.Literal.{Literal}
use Rattle.terms.specs.Fitting.{Application, Applies, AreCompared, sides, operands, sides_of, terms_in}
use Rattle.terms.specs.Sameness.{same_term}
use Rattle.terms.specs.SamenessLaws.{same_is_equal, equal_is_same}
use Rattle.proof_checker.specs.declared.condition.Condition.{Condition}
use Rattle.proof_checker.specs.Conditions.{literals_of}
use Rattle.proof_checker.specs.Derivations.{ArePair}
use Rattle.proof_checker.specs.Uses.{applied_by, chosen_at, chosen_in, some_chosen}
use Rattle.proof_checker.specs.Pairs.{AreSides, AreOperands, placed, anywhere, is_applied, is_applying}
use Rattle.proof_checker.proofs.Counting.{applies_is, is_applies, chosen-none, chosen-some}

both : (a b : Bool) → IsTrue (a && b) → (a ≡ true) × (b ≡ true)
both true b h = (refl, h)
both false b h = absurd (cc)

pub and_both : (a b : Bool) → a ≡ true → b ≡ true → IsTrue (a && b)
and_both true b e f = f
and_both false b e f = absurd (cc)

either : (a b : Bool) → IsTrue (a || b) → (a ≡ true) ⊎ IsTrue b
either true b h = inl refl
either false b h = inr h

or_left : (a b : Bool) → a ≡ true → IsTrue (a || b)
or_left true b e = refl
or_left false b e = absurd (cc)

or_right : (a b : Bool) → IsTrue b → IsTrue (a || b)
or_right true b e = refl
or_right false b e = e

-- ---- places
abbrev Place : List Term → List Term → Term → Term → Type 0
Place xs ys a b = (k : ℕ) × (slice_get xs k ≡ Some a) × (slice_get ys k ≡ Some b)

some_term : (a b : Term) → a ≡ b → ◌≡◌ {A = Option Term} (Some a) (Some b)
some_term a b e = ap (λ (t : Term). Some t) e

one_term : (a b : Term) → ◌≡◌ {A = Option Term} (Some a) (Some b) → a ≡ b
one_term a b e = cc

no_term : (a : Term) → ◌≡◌ {A = Option Term} None (Some a) → ⊥
no_term a e = absurd (cc)

placed_at : (xs ys : List Term) (a b : Term) → IsTrue (placed xs ys a b) → Place xs ys a b
placed_at [] ys a b h = absurd (cc)
placed_at (x ∷ xs) [] a b h = absurd (cc)
placed_at (x ∷ xs) (y ∷ ys) a b h = elim (either (same_term x a && same_term y b) (placed xs ys a b) h) [
  | inl e ↦ let (p, q) = both (same_term x a) (same_term y b) e in (0, some_term x a (same_is_equal x a p), some_term y b (same_is_equal y b q))
  | inr k ↦ let (n, p, q) = placed_at xs ys a b k in (suc n, p, q)
]

at_placed : (xs ys : List Term) (a b : Term) (k : ℕ) → slice_get xs k ≡ Some a → slice_get ys k ≡ Some b → IsTrue (placed xs ys a b)
at_placed [] ys a b k e f = absurd (no_term a e)
at_placed (x ∷ xs) [] a b k e f = absurd (no_term b f)
at_placed (x ∷ xs) (y ∷ ys) a b zero e f =
    or_left (same_term x a && same_term y b) (placed xs ys a b) (and_both (same_term x a) (same_term y b) (equal_is_same x a (one_term x a e)) (equal_is_same y b (one_term y b f)))
at_placed (x ∷ xs) (y ∷ ys) a b (suc k) e f =
    or_right (same_term x a && same_term y b) (placed xs ys a b) (at_placed xs ys a b k e f)

same_nat : (m n : ℕ) → (m == n) ≡ true → m ≡ n
same_nat m n h = grind (arith, nat_tests)

nat_same : (m n : ℕ) → m ≡ n → (m == n) ≡ true
nat_same m n h = grind (arith, nat_tests)

-- ---- chosen applications
none_there : (t : Term) → Contains [] t → ⊥
none_there t h = absurd (omega (arith, h.1))

at_first : (t : Term) (ts : List Term) → Contains (t ∷ ts) t
at_first t ts = Contains-append_left (t ∷ []) ts t (Contains-push [] t)

abbrev Found : (Application → Bool) → List Term → Type 0
Found q ts = (f : Application) × (t : Term) × Contains ts t × Applies t f × IsTrue (q f)

found_more : (q : Application → Bool) (t : Term) (ts : List Term) → Found q ts → Found q (t ∷ ts)
found_more q t ts (f, u, h, is, k) = (f, u, Contains-append_right (t ∷ []) ts u h, is, k)

skipped : (q : Application → Bool) (o : Option Application) (rest : List Application) → chosen_at q o ≡ [] → IsTrue (some_chosen (chosen_at q o ++ rest)) → IsTrue (some_chosen rest)
skipped q o rest e h = sym (ap (λ fs. some_chosen (fs ++ rest)) e) ∙ h

pub chosen_found : (q : Application → Bool) (before ts : List Term) → IsTrue (some_chosen (chosen_in (anywhere q) before ts)) → Found q ts
chosen_found q before [] h = absurd (cc)
chosen_found q before (t ∷ ts) h =
    let rest = chosen_in (anywhere q) (before ++ t ∷ []) ts in
    elim (applied_by t) as (λ o. applied_by t ≡ o → Found q (t ∷ ts)) [
      | None ↦ λ e. found_more q t ts (chosen_found q (before ++ t ∷ []) ts (skipped q (applied_by t) rest (chosen-none q (applied_by t) e) h))
      | Some f ↦ λ e. elim (q f) as (λ b. q f ≡ b → Found q (t ∷ ts)) [
        | true ↦ λ k. (f, t, at_first t ts, is_applies t f e, k)
        | false ↦ λ k. found_more q t ts (chosen_found q (before ++ t ∷ []) ts (skipped q (applied_by t) rest (chosen-some q (applied_by t) f false e k) h))
      ] refl
    ] refl

some_more : (fs gs : List Application) → IsTrue (some_chosen gs) → IsTrue (some_chosen (fs ++ gs))
some_more [] gs h = h
some_more (f ∷ fs) gs h = refl

pub found_chosen : (q : Application → Bool) (before ts : List Term) (f : Application) (t : Term) → Contains ts t → Applies t f → IsTrue (q f) → IsTrue (some_chosen (chosen_in (anywhere q) before ts))
found_chosen q before [] f t h is k = absurd (none_there t h)
found_chosen q before (u ∷ ts) f t h is k = elim (Contains-append_cases (u ∷ []) ts t h) [
  | inl one ↦ elim (Contains-push_cases [] u t one) [
    | inl none ↦ absurd (none_there t none)
    | inr e ↦ ap (λ fs. some_chosen (fs ++ chosen_in (anywhere q) (before ++ u ∷ []) ts)) (chosen-some q (applied_by u) f true (applies_is u f (e ∙ is)) k)
  ]
  | inr more ↦ some_more (chosen_at q (applied_by u)) (chosen_in (anywhere q) (before ++ u ∷ []) ts) (found_chosen q (before ++ u ∷ []) ts f t more is k)
]

-- ---- operands
to_operands : (c : Condition) (a b : Term) → IsTrue (some_chosen (chosen_in (anywhere (is_applying c a b)) [] (terms_in (literals_of c)))) → AreOperands (literals_of c) a b
to_operands c a b h =
    let ts = terms_in (literals_of c) in
    let (f, t, at_t, is_f, more) = chosen_found (is_applying c a b) [] ts h in
    let (g, u, at_u, is_g, test) = chosen_found (is_applied f a b) [] ts more in
    let (same, where_) = both (f.operator == g.operator) (placed f.operands g.operands a b) test in
    let (k, p, q) = placed_at f.operands g.operands a b where_ in
    record {
      first = f;
      second = g;
      place = k;
      first_stands = (t, at_t, is_f);
      second_stands = (u, at_u, is_g);
      operator = same_nat f.operator g.operator same;
      at_first = p;
      at_second = q;
    }

from_operands : (c : Condition) (a b : Term) → AreOperands (literals_of c) a b → IsTrue (some_chosen (chosen_in (anywhere (is_applying c a b)) [] (terms_in (literals_of c))))
from_operands c a b are =
    let ts = terms_in (literals_of c) in
    let f = are.first in
    let g = are.second in
    let (t, at_t, is_f) = are.first_stands in
    let (u, at_u, is_g) = are.second_stands in
    let test : IsTrue (is_applied f a b g) = and_both (f.operator == g.operator) (placed f.operands g.operands a b) (nat_same f.operator g.operator are.operator) (at_placed f.operands g.operands a b are.place are.at_first are.at_second) in
    found_chosen (is_applying c a b) [] ts f t at_t is_f (found_chosen (is_applied f a b) [] ts g u at_u is_g test)

pub operands_iff : (c : Condition) (a b : Term) (r : Bool) → r ≡ some_chosen (chosen_in (anywhere (is_applying c a b)) [] (terms_in (literals_of c))) → (IsTrue r → AreOperands (literals_of c) a b) × (AreOperands (literals_of c) a b → IsTrue r)
operands_iff c a b r e = (λ h. to_operands c a b (sym e ∙ h), λ h. e ∙ from_operands c a b h)

-- ---- pairs
abbrev Pairs : List Literal → Term → Term → Type 0
Pairs ls a b = AreSides ls a b ⊎ (AreSides ls b a ⊎ AreOperands ls a b)

compared_pairs : (ls : List Literal) (a b : Term) → AreCompared ls a b → AreSides ls a b ⊎ AreOperands ls a b
compared_pairs ls _ _ (sides l a b there e) = inl (l, there, e)
compared_pairs ls _ _ (operands f g k a b at_f at_g operator e e') = inr (record { first = f; second = g; place = k; first_stands = at_f; second_stands = at_g; operator = operator; at_first = e; at_second = e' })

turned : (ls : List Literal) (a b : Term) → AreOperands ls b a → AreOperands ls a b
turned ls a b are = record {
  first = are.second;
  second = are.first;
  place = are.place;
  first_stands = are.second_stands;
  second_stands = are.first_stands;
  operator = sym are.operator;
  at_first = are.at_second;
  at_second = are.at_first;
}

of_operands : (ls : List Literal) (a b : Term) → AreOperands ls a b → AreCompared ls a b
of_operands ls a b are =
    operands are.first are.second are.place a b are.first_stands are.second_stands are.operator are.at_first are.at_second

of_sides : (ls : List Literal) (a b : Term) → AreSides ls a b → AreCompared ls a b
of_sides ls a b (l, there, e) = sides l a b there e

pub pair_found : (c : Condition) (a b : Term) → ArePair c a b → Pairs (literals_of c) a b
pair_found c a b (inl h) = elim (compared_pairs (literals_of c) a b h) [
  | inl s ↦ inl s
  | inr s ↦ inr (inr s)
]
pair_found c a b (inr h) = elim (compared_pairs (literals_of c) b a h) [
  | inl s ↦ inr (inl s)
  | inr s ↦ inr (inr (turned (literals_of c) a b s))
]

pub first_pair : (c : Condition) (a b : Term) → AreSides (literals_of c) a b → ArePair c a b
first_pair c a b h = inl (of_sides (literals_of c) a b h)

pub second_pair : (c : Condition) (a b : Term) → AreSides (literals_of c) b a → ArePair c a b
second_pair c a b h = inr (of_sides (literals_of c) b a h)

pub last_pair : (c : Condition) (a b : Term) (r : Bool) → ¬ (AreSides (literals_of c) a b) → ¬ (AreSides (literals_of c) b a) → (IsTrue r → AreOperands (literals_of c) a b) × (AreOperands (literals_of c) a b → IsTrue r) → (IsTrue r → ArePair c a b) × (ArePair c a b → IsTrue r)
last_pair c a b r no_first no_second both_ = (
  λ h. inl (of_operands (literals_of c) a b (both_.0 h)),
  λ h. elim (pair_found c a b h) [
    | inl s ↦ absurd (no_first s)
    | inr (inl s) ↦ absurd (no_second s)
    | inr (inr s) ↦ both_.1 s
  ],
)

-- ---- sides
no_sides : (a b : Term) → AreSides [] a b → ⊥
no_sides a b (l, there, e) = none_in l there
  where
    none_in : (l : Literal) → Contains [] l → ⊥
    none_in l h = absurd (omega (arith, h.1))

more_sides : (ls : List Literal) (l : Literal) (a b : Term) → AreSides ls a b → AreSides (l ∷ ls) a b
more_sides ls l a b (k, there, e) = (k, Contains-append_right (l ∷ []) ls k there, e)

other_sides : (ls : List Literal) (l : Literal) (a b : Term) → ¬ (sides_of l ≡ Some (a, b)) → AreSides (l ∷ ls) a b → AreSides ls a b
other_sides ls l a b none (k, there, e) = elim (Contains-append_cases (l ∷ []) ls k there) [
  | inl one ↦ elim (Contains-push_cases [] l k one) [
    | inl h ↦ absurd (no_sides a b (k, h, e))
    | inr is ↦ absurd (none (ap sides_of is ∙ e))
  ]
  | inr more ↦ (k, more, e)
]

pub sides_else : (ls rest : List Literal) (l : Literal) (a b : Term) (r : Bool) → ls ≡ l ∷ rest → ¬ (sides_of l ≡ Some (a, b)) → (IsTrue r → AreSides rest a b) × (AreSides rest a b → IsTrue r) → (IsTrue r → AreSides ls a b) × (AreSides ls a b → IsTrue r)
sides_else ls rest l a b r e none both_ = (
  λ h. subst (λ zs. AreSides zs a b) (sym e) (more_sides rest l a b (both_.0 h)),
  λ h. both_.1 (other_sides rest l a b none (subst (λ zs. AreSides zs a b) e h)),
)

pub sides_iff : (o : Option (Term × Term)) (x y a b : Term) (r : Bool) → o ≡ Some (x, y) → r ≡ (same_term x a && same_term y b) → (IsTrue r → o ≡ Some (a, b)) × (o ≡ Some (a, b) → IsTrue r)
sides_iff o x y a b r e f = (
  λ h.
      let (p, q) = both (same_term x a) (same_term y b) (sym f ∙ h) in
      e ∙ ap (λ z. Some (z, y)) (same_is_equal x a p) ∙ ap (λ z. Some (a, z)) (same_is_equal y b q),
  λ h.
      let (p, q) = one_pair x y a b (sym e ∙ h) in
      f ∙ and_both (same_term x a) (same_term y b) (equal_is_same x a p) (equal_is_same y b q),
)
  where
    one_pair : (x y a b : Term) → ◌≡◌ {A = Option (Term × Term)} (Some (x, y)) (Some (a, b)) → (x ≡ a) × (y ≡ b)
    one_pair x y a b e = let same : ◌≡◌ {A = Term × Term} (x, y) (a, b) = cc in (ap (λ (p : Term × Term). p.0) same, ap (λ (p : Term × Term). p.1) same)
