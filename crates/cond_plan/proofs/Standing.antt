-- Terms that stand in literals.
use Rattle.std.specs.Prelude.{◌≡◌, ℕ, zero, suc, ◌+◌, ◌<◌, ◌≤◌, Bool, false, IsTrue, List, [], ◌∷◌, ◌++◌, length, drop, get_or, Contains, Option, Some, slice_get}
use Rattle.std.proofs.Common.{refl, sym, subst, inl, inr}
use Rattle.std.proofs.lemmas.List.{drop_all}
use Rattle.std.proofs.lemmas.Option.{slice_get_read}
use Rattle.std.proofs.lemmas.List.Elements.{Contains-append_left, Contains-append_right, Contains-append_cases}
use Rattle.terms.specs.declared.Term.{Term}
use Rattle.terms.specs.declared.Literal.{Literal}
use Rattle.terms.specs.Fitting.{sides_of, within_sides, terms_in}
use Rattle.terms.specs.Within.{terms_within}
use Rattle.proof_checker.specs.Derivations.{StandsIn}
use Rattle.cond_plan.specs.Listed.{StandsAt}
use Rattle.cond_plan.proofs.Places.{none_there, one, none_at, at_end, at_front, next}

abbrev Iff : Bool → Type 0 → Type 0
Iff b P = (IsTrue b → P) × (P → IsTrue b)

-- it stands in the second side where it doesn't stand in the first
pub stands_second : (o : Option (Term × Term)) (a b t : Term) (p q : Bool) → o ≡ Some (a, b) → Iff p (Contains (terms_within a) t) → p ≡ false → Iff q (Contains (terms_within b) t) → Iff q (Contains (within_sides o ++ []) t)
stands_second o a b t p q e first off second = (
  λ h. subst (λ z. Contains (within_sides z ++ []) t) (sym e) (Contains-append_left (terms_within a ++ terms_within b) [] t (Contains-append_right (terms_within a) (terms_within b) t (second.0 h))),
  λ h. elim (Contains-append_cases (terms_within a ++ terms_within b) [] t (subst (λ z. Contains (within_sides z ++ []) t) e h)) [
    | inl both ↦ elim (Contains-append_cases (terms_within a) (terms_within b) t both) [
      | inl first_ ↦ let on = first.1 first_ in absurd (cc (on, off))
      | inr more ↦ second.1 more
    ]
    | inr gone ↦ absurd (none_there t gone)
  ],
)

-- it stands in a literal behind the first, where it doesn't stand in the first
behind : (l : Literal) (ls : List Literal) (t : Term) → ¬ (StandsIn t l) → Contains (terms_in (l ∷ ls)) t → Contains (terms_in ls) t
behind l ls t off h = elim (Contains-append_cases (within_sides (sides_of l)) (terms_in ls) t h) [
  | inl first ↦ absurd (off (Contains-append_left (within_sides (sides_of l)) [] t first))
  | inr more ↦ more
]

pub stands_later : (xs : List Literal) (i : ℕ) (x last : Literal) (t : Term) → i < length xs → x ≡ get_or xs i x → ¬ (StandsIn t x) → Contains (terms_in (drop i xs ++ last ∷ [])) t → Contains (terms_in (drop (i + 1) xs ++ last ∷ [])) t
stands_later xs i x last t lt is off h =
    behind x (drop (i + 1) xs ++ last ∷ []) t off (subst (λ zs. Contains (terms_in (zs ++ last ∷ [])) t) (next xs i x lt is) h)

pub stands_here : (xs ys : List Literal) (i : ℕ) (x : Literal) (t : Term) → i < length xs → x ≡ get_or xs i x → StandsIn t x → StandsAt (xs ++ ys) i t
stands_here xs ys i x t lt is h = (x, at_front xs ys i x (slice_get_read xs (length xs) i x refl lt is), h)

pub stands_last : (xs : List Literal) (i : ℕ) (last : Literal) (t : Term) → length xs ≤ i → Contains (terms_in (drop i xs ++ last ∷ [])) t → StandsAt (xs ++ last ∷ []) (length xs) t
stands_last xs i last t le h =
    (last, at_end xs last, subst (λ zs. Contains (terms_in (zs ++ last ∷ [])) t) (drop_all i xs le) h)

-- what stands in a literal stands in the literals
pub stands_among : (ls : List Literal) (n : ℕ) (l : Literal) (t : Term) → slice_get ls n ≡ Some l → StandsIn t l → Contains (terms_in ls) t
stands_among [] n l t e h = absurd (none_at l n e)
stands_among (k ∷ ls) zero l t e h = elim (Contains-append_cases (within_sides (sides_of l)) [] t h) [
  | inl first ↦ subst (λ z. Contains (terms_in (z ∷ ls)) t) (sym (one k l e)) (Contains-append_left (within_sides (sides_of l)) (terms_in ls) t first)
  | inr gone ↦ absurd (none_there t gone)
]
stands_among (k ∷ ls) (suc n) l t e h =
    Contains-append_right (within_sides (sides_of k)) (terms_in ls) t (stands_among ls n l t e h)
