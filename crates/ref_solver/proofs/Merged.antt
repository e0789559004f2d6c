-- Two classes made one, and the classes before.
use Rattle.std.specs.Prelude.{◌≡◌, ◌⊎◌, ℕ, ◌+◌, ◌<◌, ◌≤◌, Bool, true, false, List, [], ◌∷◌, ◌++◌, length, get_or, remove, count_by, Contains, if◌then◌else◌}
use Rattle.std.specs.List.{list_any}
use Rattle.std.proofs.Common.{refl, ap, sym, subst, ◌∙◌, inl, inr, arith, length-append, zero, suc}
use Rattle.std.proofs.lemmas.List.{get_or_default}
use Rattle.std.proofs.lemmas.List.Elements.{Contains-get_or, Contains-push, Contains-push_cases, Contains-append_cases}
use Rattle.std.proofs.lemmas.List.Sorted.{IsPermutation-remove, IsPermutation-sym, Contains-permutation}
use Rattle.std.proofs.lemmas.List.Sums.{sum_by-remove, sum_by-append}
use Rattle.std.proofs.lemmas.List.Edits.{length-remove, get_or-remove_below}
use Rattle.terms.specs.declared.Term.{Term}
use Rattle.terms.specs.declared.Literal.{Literal}
use Rattle.terms.specs.Fitting.{terms_in}
use Rattle.ref_solver.specs.Following.{Stands, Follows, itself, turned, through}
use Rattle.terms.specs.Sameness.{same_term}
use Rattle.ref_solver.specs.Classes.{count_in, AreTogether, has, linked, linked_to, linked_to_some, with_term, with_terms, class_at, merged, ArePartial, IsPartner}
use Rattle.ref_solver.proofs.Standing.{first_in, rest_in, none_in, cons_cases, both_stand}
use Rattle.terms.specs.SamenessLaws.{same_is_equal}
use Rattle.ref_solver.proofs.Linking.{some_of, any_from, or_cases, has_it, it_has, linked_follows}
use Rattle.ref_solver.proofs.Exact.{Parted, count_of, unit_if, count_cons, in_cons, counted_in, found_at}

pub merged_fewer : (cs : Parted) (i j : ℕ) → i < j → j < length cs → length (merged cs i j) < length cs
merged_fewer cs i j lt low =
    let one = length-remove cs j low in
    let inside : i < length (remove cs j) = omega arith in
    let two = length-remove (remove cs j) i inside in
    let three = length-append (remove (remove cs j) i) ((class_at cs i ++ class_at cs j) ∷ []) in
    omega arith

merged_count : (t : Term) (cs : Parted) (i j : ℕ) → i < j → j < length cs → count_in t (merged cs i j) ≡ count_in t cs
merged_count t cs i j lt low =
    let f : List Term → ℕ = count_by (same_term t) in
    let one = sum_by-remove f cs j [] low in
    let long = length-remove cs j low in
    let inside : i < length (remove cs j) = omega arith in
    let two = sum_by-remove f (remove cs j) i [] inside in
    let here : f (get_or (remove cs j) i []) ≡ f (class_at cs i) = ap f (get_or-remove_below cs j [] i lt low) in
    let both_ = sum_by-append f (remove (remove cs j) i) ((class_at cs i ++ class_at cs j) ∷ []) in
    let joined_ : f (class_at cs i ++ class_at cs j) ≡ f (class_at cs i) + f (class_at cs j) = sum_by-append (λ u. unit_if (same_term t u)) (class_at cs i) (class_at cs j) in
    omega arith

removed_in : (cs : Parted) (i : ℕ) (c : List Term) → i < length cs → Contains (remove cs i) c → Contains cs c
removed_in cs i c lt h =
    let x = class_at cs i in
    let is : x ≡ get_or cs i x = sym (get_or_default cs i x [] lt) in
    Contains-permutation (x ∷ remove cs i) cs c (IsPermutation-sym cs (x ∷ remove cs i) (IsPermutation-remove cs i x lt is)) (rest_in x (remove cs i) c h)

module _ (ls : List Literal) (cs : Parted) (i j : ℕ) (partial : ArePartial ls cs) (partner : IsPartner ls cs j i) (low : j < length cs) where
  linked_either : (s t : Term) → Stands ls s → Stands ls t → linked_to ls cs s t ≡ true → Follows ls s t
  linked_either s t p q h = elim (or_cases (linked ls cs s t) (linked ls cs t s) h) [
    | inl u ↦ linked_follows ls cs s t partial.sound p q u
    | inr v ↦ turned t s (linked_follows ls cs t s partial.sound q p v)
  ]

  first : Contains cs (class_at cs i)
  first = let lt = partner.below in let inside : i < length cs = omega arith in Contains-get_or cs i [] inside

  second : Contains cs (class_at cs j)
  second = Contains-get_or cs j [] low

  across : (s t : Term) → Contains (class_at cs i) s → Contains (class_at cs j) t → Follows ls s t
  across s t p q =
      let (x, here, some) = some_of (linked_to_some ls cs (class_at cs j)) (class_at cs i) partner.linked in
      let (y, there, is) = some_of (linked_to ls cs x) (class_at cs j) some in
      let left : Follows ls s x = partial.sound s x (class_at cs i, first, p, here) in
      let right : Follows ls y t = partial.sound y t (class_at cs j, second, there, q) in
      let middle : Follows ls x y = linked_either x y (both_stand ls s x left).1 (both_stand ls y t right).0 is in
      through s x t left (through x y t middle right)

  in_merged : (s t : Term) → Contains (class_at cs i ++ class_at cs j) s → Contains (class_at cs i ++ class_at cs j) t → Follows ls s t
  in_merged s t p q =
      elim (Contains-append_cases (class_at cs i) (class_at cs j) s p) [
        | inl a ↦ elim (Contains-append_cases (class_at cs i) (class_at cs j) t q) [
          | inl b ↦ partial.sound s t (class_at cs i, first, a, b)
          | inr b ↦ across s t a b
        ]
        | inr a ↦ elim (Contains-append_cases (class_at cs i) (class_at cs j) t q) [
          | inl b ↦ turned t s (across t s b a)
          | inr b ↦ partial.sound s t (class_at cs j, second, a, b)
        ]
      ]

  merged_sound : (s t : Term) → AreTogether (merged cs i j) s t → Follows ls s t
  merged_sound s t (c, there, p, q) =
      let lt = partner.below in
      let long = length-remove cs j low in
      let inside : i < length (remove cs j) = omega arith in
      elim (Contains-push_cases (remove (remove cs j) i) (class_at cs i ++ class_at cs j) c there) [
        | inl old ↦ partial.sound s t (c, removed_in cs j c low (removed_in (remove cs j) i c inside old), p, q)
        | inr e ↦ in_merged s t (subst (λ d. Contains d s) (sym e) p) (subst (λ d. Contains d t) (sym e) q)
      ]

  pub merged_partial : ArePartial ls (merged cs i j)
  merged_partial = record {
    once = λ t h. merged_count t cs i j partner.below low ∙ partial.once t h;
    sound = merged_sound;
  }

pub next_partial : (ls : List Literal) (cs seen new : Parted) (i j : ℕ) → seen ≡ cs → ArePartial ls cs → IsPartner ls seen j i → j < length seen → new ≡ merged cs i j → ArePartial ls new
next_partial ls cs seen new i j is partial partner low e =
    let partner_ : IsPartner ls cs j i = subst (λ ds. IsPartner ls ds j i) is partner in
    let low_ : j < length cs = subst (λ ds. j < length ds) is low in
    subst (ArePartial ls) (sym e) (merged_partial ls cs i j partial partner_ low_)

-- the terms, each alone
kept : (u : Term) (cs : Parted) → list_any (has u) cs ≡ true → with_term u cs ≡ cs
kept u cs e = ap (λ b. if b then cs else cs ++ (u ∷ []) ∷ []) e

pushed : (u : Term) (cs : Parted) → list_any (has u) cs ≡ false → with_term u cs ≡ cs ++ (u ∷ []) ∷ []
pushed u cs e = ap (λ b. if b then cs else cs ++ (u ∷ []) ∷ []) e

one_more : (t u : Term) (cs : Parted) → count_in t (cs ++ (u ∷ []) ∷ []) ≡ count_in t cs + unit_if (same_term t u)
one_more t u cs =
    let is : count_in t (cs ++ (u ∷ []) ∷ []) ≡ count_in t cs + count_in t ((u ∷ []) ∷ []) = sum_by-append (count_by (same_term t)) cs ((u ∷ []) ∷ []) in
    let one : count_in t ((u ∷ []) ∷ []) ≡ count_of t (u ∷ []) + 0 = in_cons t (u ∷ []) [] in
    let two : count_of t (u ∷ []) ≡ unit_if (same_term t u) + 0 = count_cons t u [] in
    omega (arith, is, one, two)

term_in : (t : Term) (cs : Parted) → 1 ≤ count_in t cs → list_any (has t) cs ≡ true
term_in t cs h =
    let (i, lt, there) = found_at t cs h in
    any_from (has t) cs (class_at cs i) (Contains-get_or cs i [] lt) (it_has t (class_at cs i) there)

-- what a step leaves: a term stands no more than once, where it did, and stands on
record Adds (t : Term) (u : Term) (old new : Parted) : Type 0 where
  most : count_in t old ≤ 1 → count_in t new ≤ 1
  least : count_in t old ≤ count_in t new
  there : 1 ≤ count_in u new

new_one : (t u : Term) (cs : Parted) → same_term t u ≡ true → list_any (has u) cs ≡ false → (n : ℕ) → count_in t cs ≡ n → count_in t cs + 1 ≤ 1
new_one t u cs s e zero f = omega (arith, f)
new_one t u cs s e (suc n) f =
    let some : 1 ≤ count_in t cs = omega (arith, f) in
    let there = subst (λ v. list_any (has v) cs ≡ true) (same_is_equal t u s) (term_in t cs some) in
    absurd (cc)

new_most : (t u : Term) (cs : Parted) → list_any (has u) cs ≡ false → count_in t cs ≤ 1 → (b : Bool) → same_term t u ≡ b → count_in t cs + unit_if b ≤ 1
new_most t u cs e h false s = omega (arith, h)
new_most t u cs e h true s = new_one t u cs s e (count_in t cs) refl

pushed_most : (t u : Term) (cs : Parted) → list_any (has u) cs ≡ false → count_in t cs ≤ 1 → count_in t (cs ++ (u ∷ []) ∷ []) ≤ 1
pushed_most t u cs e h =
    subst (λ n. n ≤ 1) (sym (one_more t u cs)) (new_most t u cs e h (same_term t u) refl)

pushed_least : (t u : Term) (cs : Parted) → count_in t cs ≤ count_in t (cs ++ (u ∷ []) ∷ [])
pushed_least t u cs = let is = one_more t u cs in omega (arith, is)

adds_by : (t u : Term) (cs : Parted) (b : Bool) → list_any (has u) cs ≡ b → Adds t u cs (with_term u cs)
adds_by t u cs true e =
    let (c, there_, is) = some_of (has u) cs e in
    subst (Adds t u cs) (sym (kept u cs e)) (record {
      most = λ h. h;
      least = omega arith;
      there = counted_in u cs c there_ (has_it u c is);
    })
adds_by t u cs false e =
    subst (Adds t u cs) (sym (pushed u cs e)) (record {
      most = pushed_most t u cs e;
      least = pushed_least t u cs;
      there = counted_in u (cs ++ (u ∷ []) ∷ []) (u ∷ []) (Contains-push cs (u ∷ [])) (first_in u []);
    })

adds : (t u : Term) (cs : Parted) → Adds t u cs (with_term u cs)
adds t u cs = adds_by t u cs (list_any (has u) cs) refl

most_once : (t : Term) (ts : List Term) (cs : Parted) → count_in t cs ≤ 1 → count_in t (with_terms ts cs) ≤ 1
most_once t [] cs h = h
most_once t (u ∷ ts) cs h =
    most_once t ts (with_term u cs) ((adds t u cs).most h)

stays : (t : Term) (ts : List Term) (cs : Parted) → 1 ≤ count_in t cs → 1 ≤ count_in t (with_terms ts cs)
stays t [] cs h = h
stays t (u ∷ ts) cs h =
    let more = (adds t u cs).least in
    let now : 1 ≤ count_in t (with_term u cs) = omega arith in
    stays t ts (with_term u cs) now

comes : (t : Term) (ts : List Term) (cs : Parted) → Contains ts t → 1 ≤ count_in t (with_terms ts cs)
comes t [] cs h = absurd (none_in t h)
comes t (u ∷ ts) cs h = elim (cons_cases u ts t h) [
  | inl e ↦ stays t ts (with_term u cs) (subst (λ v. 1 ≤ count_in v (with_term u cs)) e (adds t u cs).there)
  | inr more ↦ comes t ts (with_term u cs) more
]

alone_step : (u s t : Term) (cs : Parted) → AreTogether (with_term u cs) s t → AreTogether cs s t ⊎ ((s ≡ t) × (s ≡ u))
alone_step u s t cs h = either (list_any (has u) cs) refl
  where
    single : (v : Term) → Contains (u ∷ []) v → v ≡ u
    single v k = elim (cons_cases u [] v k) [ inl e ↦ sym e | inr none_ ↦ absurd (none_in v none_) ]

    last_one : AreTogether (cs ++ (u ∷ []) ∷ []) s t → AreTogether cs s t ⊎ ((s ≡ t) × (s ≡ u))
    last_one (c, there, p, q) = elim (Contains-push_cases cs (u ∷ []) c there) [
      | inl old ↦ inl (c, old, p, q)
      | inr e ↦
          let left = single s (subst (λ d. Contains d s) (sym e) p) in
          let right = single t (subst (λ d. Contains d t) (sym e) q) in
          inr (left ∙ sym right, left)
    ]

    either : (b : Bool) → list_any (has u) cs ≡ b → AreTogether cs s t ⊎ ((s ≡ t) × (s ≡ u))
    either true e = inl (subst (λ ds. AreTogether ds s t) (kept u cs e) h)
    either false e = last_one (subst (λ ds. AreTogether ds s t) (pushed u cs e) h)

alone_all : (ts : List Term) (s t : Term) (cs : Parted) → AreTogether (with_terms ts cs) s t → AreTogether cs s t ⊎ ((s ≡ t) × Contains ts s)
alone_all [] s t cs h = inl h
alone_all (u ∷ ts) s t cs h = elim (alone_all ts s t (with_term u cs) h) [
  | inr more ↦ inr (more.0, rest_in u ts s more.1)
  | inl old ↦ elim (alone_step u s t cs old) [
    | inl older ↦ inl older
    | inr e ↦ inr (e.0, subst (Contains (u ∷ ts)) (sym e.1) (first_in u ts))
  ]
]

pub alone_partial : (ls : List Literal) → ArePartial ls (with_terms (terms_in ls) [])
alone_partial ls = record {
  once = λ t h. let low = comes t (terms_in ls) [] h in let high = most_once t (terms_in ls) [] (omega arith) in omega arith;
  sound = λ s t h. elim (alone_all (terms_in ls) s t [] h) [
    | inl none_ ↦ absurd (none_in none_.0 none_.1)
    | inr e ↦ subst (Follows ls s) e.0 (itself s e.1)
  ];
}
