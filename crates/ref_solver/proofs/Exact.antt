-- Classes that are settled are exact.
use Rattle.std.specs.Prelude.{◌≡◌, ◌⊎◌, ℕ, ◌+◌, ◌<◌, ◌≤◌, Bool, true, false, ◌||◌, List, [], ◌∷◌, length, count_by, Contains, if◌then◌else◌}
use Rattle.std.proofs.Common.{refl, ap, sym, subst, ◌∙◌, inl, inr, arith, zero, suc}
use Rattle.std.proofs.lemmas.List.Elements.{Contains-get_or}
use Rattle.std.proofs.lemmas.List.Sums.{sum_by-cons}
use Rattle.terms.specs.declared.Term.{Term}
use Rattle.terms.specs.declared.Literal.{Literal}
use Rattle.ref_solver.specs.Following.{Stands, Follows, assumed, none, result, applied, sum, multiple, itself, turned, through}
use Rattle.terms.specs.Sameness.{same_term}
use Rattle.ref_solver.specs.Classes.{count_in, AreTogether, AreClasses, linked, linked_to, linked_to_some, links, class_at, ArePartial, AreSettled}
use Rattle.ref_solver.proofs.Standing.{first_in, rest_in, none_in, cons_cases, both_stand}
use Rattle.terms.specs.SamenessLaws.{same_is_equal, equal_is_same}
use Rattle.ref_solver.proofs.Linking.{any_from, or_left, assumed_linked, none_linked, result_linked, applied_linked, sum_linked, multiple_linked}

abbrev pub Parted : Type 0
Parted = List (List Term)

-- how often a term stands in one class
abbrev pub count_of : Term → List Term → ℕ
count_of t c = count_by (same_term t) c

abbrev pub unit_if : Bool → ℕ
unit_if b = if b then 1 else 0

pub count_cons : (t u : Term) (c : List Term) → count_of t (u ∷ c) ≡ unit_if (same_term t u) + count_of t c
count_cons t u c = sum_by-cons (λ x. unit_if (same_term t x)) u c

pub in_cons : (t : Term) (c : List Term) (cs : Parted) → count_in t (c ∷ cs) ≡ count_of t c + count_in t cs
in_cons t c cs = sum_by-cons (count_by (same_term t)) c cs

one_if : (b : Bool) → b ≡ true → unit_if b ≡ 1
one_if b e = ap unit_if e

none_if : (b : Bool) → b ≡ false → unit_if b ≡ 0
none_if b e = ap unit_if e

counted_first : (t u : Term) (c : List Term) → t ≡ u → 1 ≤ count_of t (u ∷ c)
counted_first t u c e =
    let is = count_cons t u c in
    let one = one_if (same_term t u) (equal_is_same t u e) in
    omega (arith, is, one)

counted_rest : (t u : Term) (c : List Term) → 1 ≤ count_of t c → 1 ≤ count_of t (u ∷ c)
counted_rest t u c h = let is = count_cons t u c in omega (arith, is)

counted : (t : Term) (c : List Term) → Contains c t → 1 ≤ count_of t c
counted t [] h = absurd (none_in t h)
counted t (u ∷ c) h = elim (cons_cases u c t h) [
  | inl e ↦ counted_first t u c (sym e)
  | inr more ↦ counted_rest t u c (counted t c more)
]

in_first : (t : Term) (c : List Term) (cs : Parted) → 1 ≤ count_of t c → 1 ≤ count_in t (c ∷ cs)
in_first t c cs h = let is = in_cons t c cs in omega (arith, is)

in_rest : (t : Term) (c : List Term) (cs : Parted) → 1 ≤ count_in t cs → 1 ≤ count_in t (c ∷ cs)
in_rest t c cs h = let is = in_cons t c cs in omega (arith, is)

pub counted_in : (t : Term) (cs : Parted) (c : List Term) → Contains cs c → Contains c t → 1 ≤ count_in t cs
counted_in t [] c h k = absurd (none_in c h)
counted_in t (d ∷ cs) c h k = elim (cons_cases d cs c h) [
  | inl e ↦ in_first t d cs (counted t d (subst (λ x. Contains x t) (sym e) k))
  | inr more ↦ in_rest t d cs (counted_in t cs c more k)
]

found_step : (t u : Term) (c : List Term) → (1 ≤ count_of t c → Contains c t) → (b : Bool) → same_term t u ≡ b → 1 ≤ count_of t (u ∷ c) → Contains (u ∷ c) t
found_step t u c more true e h =
    subst (Contains (u ∷ c)) (sym (same_is_equal t u e)) (first_in u c)
found_step t u c more false e h =
    let is = count_cons t u c in
    let one = none_if (same_term t u) e in
    let rest : 1 ≤ count_of t c = omega (arith, is, one, h) in
    rest_in u c t (more rest)

found : (t : Term) (c : List Term) → 1 ≤ count_of t c → Contains c t
found t [] h = absurd (omega arith)
found t (u ∷ c) h = found_step t u c (found t c) (same_term t u) refl h

abbrev Place : Term → Parted → Type 0
Place t cs = (i : ℕ) × (i < length cs) × Contains (class_at cs i) t

found_at_step : (t : Term) (c : List Term) (cs : Parted) → (1 ≤ count_in t cs → Place t cs) → (n : ℕ) → count_of t c ≡ n → 1 ≤ count_in t (c ∷ cs) → Place t (c ∷ cs)
found_at_step t c cs more zero e h =
    let is = in_cons t c cs in
    let rest : 1 ≤ count_in t cs = omega (arith, is, e, h) in
    let (i, lt, there) = more rest in
    (suc i, omega (arith, lt), there)
found_at_step t c cs more (suc n) e h =
    let some : 1 ≤ count_of t c = omega (arith, e) in
    (0, omega arith, found t c some)

-- the class in which a term stands
pub found_at : (t : Term) (cs : Parted) → 1 ≤ count_in t cs → Place t cs
found_at t [] h = absurd (omega arith)
found_at t (c ∷ cs) h = found_at_step t c cs (found_at t cs) (count_of t c) refl h

twice : (t : Term) (c : List Term) (cs : Parted) → count_in t (c ∷ cs) ≤ 1 → 1 ≤ count_of t c → 1 ≤ count_in t cs → ⊥
twice t c cs h p q = let is = in_cons t c cs in omega (arith, is, h, p, q)

less_in : (t : Term) (c : List Term) (cs : Parted) → count_in t (c ∷ cs) ≤ 1 → count_in t cs ≤ 1
less_in t c cs h = let is = in_cons t c cs in omega (arith, is, h)

-- a term that stands once stands in one class
one_class : (t : Term) (cs : Parted) (c d : List Term) → count_in t cs ≤ 1 → Contains cs c → Contains c t → Contains cs d → Contains d t → c ≡ d
one_class t [] c d h p q r s = absurd (none_in c p)
one_class t (e ∷ cs) c d h p q r s =
    elim (cons_cases e cs c p) [
      | inl f ↦ elim (cons_cases e cs d r) [
        | inl g ↦ sym f ∙ g
        | inr g ↦
            let one = counted t e (subst (λ x. Contains x t) (sym f) q) in
            absurd (twice t e cs h one (counted_in t cs d g s))
      ]
      | inr f ↦ elim (cons_cases e cs d r) [
        | inl g ↦
            let one = counted t e (subst (λ x. Contains x t) (sym g) s) in
            absurd (twice t e cs h one (counted_in t cs c f q))
        | inr g ↦ one_class t cs c d (less_in t e cs h) f q g s
      ]
    ]

-- members of classes that aren't linked
linked_links : (ls : List Literal) (cs : Parted) (c d : List Term) (s t : Term) → Contains c s → Contains d t → linked_to ls cs s t ≡ true → links ls cs c d ≡ true
linked_links ls cs c d s t p q h =
    any_from (linked_to_some ls cs d) c s p (any_from (linked_to ls cs s) d t q h)

or_turned : (a b : Bool) → b ≡ true → (a || b) ≡ true
or_turned true b h = refl
or_turned false b h = h

order_next : (i j : ℕ) → (i < j) ⊎ ((i ≡ j) ⊎ (j < i)) → (suc i < suc j) ⊎ ((suc i ≡ suc j) ⊎ (suc j < suc i))
order_next i j (inl p) = inl (omega (arith, p))
order_next i j (inr (inl e)) = inr (inl (ap (λ (n : ℕ). suc n) e))
order_next i j (inr (inr r)) = inr (inr (omega (arith, r)))

order_of : (i j : ℕ) → (i < j) ⊎ ((i ≡ j) ⊎ (j < i))
order_of zero zero = inr (inl refl)
order_of zero (suc j) = inl (omega arith)
order_of (suc i) zero = inr (inr (omega arith))
order_of (suc i) (suc j) = order_next i j (order_of i j)

module _ (ls : List Literal) (cs : Parted) (partial : ArePartial ls cs) (settled : AreSettled ls cs) where
  met : (s t : Term) → Stands ls s → Stands ls t → linked ls cs s t ≡ true → AreTogether cs s t
  met s t p q h =
      let one : 1 ≤ count_in s cs = let e = partial.once s p in omega arith in
      let two : 1 ≤ count_in t cs = let e = partial.once t q in omega arith in
      let (i, low, here) = found_at s cs one in
      let (j, high, there) = found_at t cs two in
      elim (order_of i j) [
        | inl lt ↦
            let yes = linked_links ls cs (class_at cs i) (class_at cs j) s t here there (or_left (linked ls cs s t) (linked ls cs t s) h) in
            let no_ = settled i j lt high in
            absurd (cc)
        | inr more ↦ elim more [
          | inl e ↦ (class_at cs i, Contains-get_or cs i [] low, here, subst (λ n. Contains (class_at cs n) t) (sym e) there)
          | inr gt ↦
              let yes = linked_links ls cs (class_at cs j) (class_at cs i) t s there here (or_turned (linked ls cs t s) (linked ls cs s t) h) in
              let no_ = settled j i gt low in
              absurd (cc)
        ]
      ]

  whole : (s t : Term) → Follows ls s t → AreTogether cs s t
  whole _ _ (assumed a b h) =
      let (p, q) = both_stand ls a b (assumed a b h) in
      met a b p q (assumed_linked ls cs a b h)
  whole _ _ (none h k) = met _ _ h k (none_linked ls cs)
  whole _ _ (result t f h is) =
      let (p, q) = both_stand ls t f.result (result t f h is) in
      met t f.result p q (result_linked ls cs t f is)
  whole _ _ (applied t u f g h k is are same long operands) =
      met t u h k (applied_linked ls cs t u f g is are same long (λ n a b p q. whole a b (operands n a b p q)))
  whole _ _ (sum a b c d h k p q) =
      met _ _ h k (sum_linked ls cs a b c d (whole a c p) (whole b d q))
  whole _ _ (multiple k a b h j p) =
      met _ _ h j (multiple_linked ls cs k a b (whole a b p))
  whole _ _ (itself t h) =
      let one : 1 ≤ count_in t cs = let e = partial.once t h in omega arith in
      let (i, low, here) = found_at t cs one in
      (class_at cs i, Contains-get_or cs i [] low, here, here)
  whole _ _ (turned s t p) =
      let (c, there, here, other) = whole s t p in
      (c, there, other, here)
  whole _ _ (through s t u p q) =
      let (c, there, here, other) = whole s t p in
      let (d, there_, here_, other_) = whole t u q in
      let stands = (both_stand ls s t p).1 in
      let once : count_in t cs ≤ 1 = let e = partial.once t stands in omega arith in
      let is : c ≡ d = one_class t cs c d once there other there_ here_ in
      (d, there_, subst (λ x. Contains x s) is here, other_)

  pub exact_classes : AreClasses ls cs
  exact_classes = record { once = partial.once; exact = λ s t. (partial.sound s t, whole s t) }
