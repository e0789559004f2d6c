-- Laws of rows that no other row implies.
use Rattle.std.specs.Prelude.{◌≡◌, ◌≢◌, ◌⊎◌, ◌<◌, ℕ, zero, suc, List, [], ◌∷◌, ◌++◌, Some, slice_get, slice_set, get_or, length, All, Contains, refl}
use Rattle.std.proofs.Common.{sym, ap, ◌∙◌, subst, inl, inr}
use Rattle.std.proofs.lemmas.List.Elements.{All-nil, All-cons, All-head, All-tail, All-push, All-weaker, All-contains, All-contains_itself, Contains-push, Contains-append_left, Contains-append_right}
use Rattle.std.proofs.lemmas.Option.{get_or_from_slice_get}
use Rattle.lin_rows.specs.declared.row.Row.{Row}
use Rattle.lin_rows.specs.declared.step.ComboStep.{ComboStep}
use Rattle.lin_solver.specs.Numbers.{numbered, HasRow, HaveRows, IsAny, Implies, FollowsFrom, AreApart}
use Rattle.lin_solver.proofs.NumberLemmas.{one_row, have_weaker}
use Rattle.lin_solver.proofs.StepLemmas.{implies_itself, follows_on}

first_in : (n : ℕ) (ns : List ℕ) → Contains (n ∷ ns) n
first_in n ns = Contains-append_left (n ∷ []) ns n (Contains-push [] n)

later_in : (n : ℕ) (ns : List ℕ) (k : ℕ) → Contains ns k → Contains (n ∷ ns) k
later_in n ns k h = Contains-append_right (n ∷ []) ns k h

-- a number that is put in the place of another
pub set_among : (ns : List ℕ) (at m : ℕ) → All (λ n. Contains ns n ⊎ (n ≡ m)) (slice_set ns at m)
set_among [] at m = All-nil _
set_among (n ∷ ns) zero m =
    All-cons (λ k. Contains (n ∷ ns) k ⊎ (k ≡ m)) m ns (inr refl) (All-weaker (Contains ns) (λ k. Contains (n ∷ ns) k ⊎ (k ≡ m)) (λ k h. inl (later_in n ns k h)) ns (All-contains_itself ns))
set_among (n ∷ ns) (suc at) m =
    All-cons (λ k. Contains (n ∷ ns) k ⊎ (k ≡ m)) n (slice_set ns at m) (inl (first_in n ns)) (All-weaker (λ k. Contains ns k ⊎ (k ≡ m)) (λ k. Contains (n ∷ ns) k ⊎ (k ≡ m)) later (slice_set ns at m) (set_among ns at m))
  where
    later : (k : ℕ) → Contains ns k ⊎ (k ≡ m) → Contains (n ∷ ns) k ⊎ (k ≡ m)
    later k (inl h) = inl (later_in n ns k h)
    later k (inr e) = inr e

-- it is there, and each other one still is
pub set_there : (ns : List ℕ) (at m old : ℕ) → slice_get ns at ≡ Some old → Contains (slice_set ns at m) m
set_there [] at m old e = absurd (cc)
set_there (n ∷ ns) zero m old e = first_in m ns
set_there (n ∷ ns) (suc at) m old e = later_in n (slice_set ns at m) m (set_there ns at m old e)

pub set_others : (ns : List ℕ) (at m old : ℕ) → slice_get ns at ≡ Some old → All (λ n. Contains (slice_set ns at m) n ⊎ (n ≡ old)) ns
set_others [] at m old e = absurd (cc)
set_others (n ∷ ns) zero m old e =
    let same : n ≡ old = cc in
    All-cons (λ k. Contains (m ∷ ns) k ⊎ (k ≡ old)) n ns (inr same) (All-weaker (Contains ns) (λ k. Contains (m ∷ ns) k ⊎ (k ≡ old)) (λ k h. inl (later_in m ns k h)) ns (All-contains_itself ns))
set_others (n ∷ ns) (suc at) m old e =
    All-cons (λ k. Contains (n ∷ slice_set ns at m) k ⊎ (k ≡ old)) n ns (inl (first_in n (slice_set ns at m))) (All-weaker (λ k. Contains (slice_set ns at m) k ⊎ (k ≡ old)) (λ k. Contains (n ∷ slice_set ns at m) k ⊎ (k ≡ old)) later ns (set_others ns at m old e))
  where
    later : (k : ℕ) → Contains (slice_set ns at m) k ⊎ (k ≡ old) → Contains (n ∷ slice_set ns at m) k ⊎ (k ≡ old)
    later k (inl h) = inl (later_in n (slice_set ns at m) k h)
    later k (inr f) = inr f

-- each row follows from numbers that have its own
pub own_follows : (rows : List Row) (steps : List ComboStep) (numbers : List ℕ) (n : ℕ) (r : Row) → Contains numbers n → slice_get (numbered rows steps) n ≡ Some (Some r) → HasRow rows steps (FollowsFrom rows steps numbers) n
own_follows rows steps numbers n r there e = (r, e, (n, there, (r, e, implies_itself r)))

pub all_follow : (rows : List Row) (steps : List ComboStep) (few numbers : List ℕ) → HaveRows rows steps IsAny few → All (Contains numbers) few → HaveRows rows steps (FollowsFrom rows steps numbers) few
all_follow rows steps few numbers have there k d lt =
    let (r, e, any) = have k d lt in own_follows rows steps numbers _ r (there k d lt) e

-- where a number goes whose row the new one implies
pub set_follow : (rows : List Row) (steps : List ComboStep) (ns : List ℕ) (at m old : ℕ) (r s : Row) → HaveRows rows steps IsAny ns → slice_get ns at ≡ Some old → slice_get (numbered rows steps) m ≡ Some (Some s) → slice_get (numbered rows steps) old ≡ Some (Some r) → Implies s r → HaveRows rows steps (FollowsFrom rows steps (slice_set ns at m)) ns
set_follow rows steps ns at m old r s have is new was implies k d lt =
    let (t, e, any) = have k d lt in each _ t e (set_others ns at m old is k d lt)
  where
    each : (n : ℕ) (t : Row) → slice_get (numbered rows steps) n ≡ Some (Some t) → Contains (slice_set ns at m) n ⊎ (n ≡ old) → HasRow rows steps (FollowsFrom rows steps (slice_set ns at m)) n
    each n t e (inl h) = own_follows rows steps (slice_set ns at m) n t h e
    each n t e (inr f) =
        let here : slice_get (numbered rows steps) n ≡ Some (Some r) = ap (slice_get (numbered rows steps)) f ∙ was in
        (r, here, (m, set_there ns at m old is, (s, new, implies)))

-- numbers stay apart with one more, whose terms none of them has
pub apart_more : (rows : List Row) (steps : List ComboStep) (ns : List ℕ) (m : ℕ) (r : Row) → slice_get (numbered rows steps) m ≡ Some (Some r) → HaveRows rows steps (λ s. s.coefs ≢ r.coefs) ns → AreApart rows steps ns → AreApart rows steps (ns ++ m ∷ [])
apart_more rows steps [] m r e other apart = ((r, e, All-nil _), tt)
apart_more rows steps (n ∷ ns) m r e other ((s, f, from), apart) =
    let differs = one_row rows steps (λ s. s.coefs ≢ r.coefs) n s f (All-head (HasRow rows steps (λ s. s.coefs ≢ r.coefs)) n ns other) in (
      (s, f, All-push (HasRow rows steps (λ t. t.coefs ≢ s.coefs)) ns m from (r, e, λ same. differs (sym same))),
      apart_more rows steps ns m r e (All-tail (HasRow rows steps (λ s. s.coefs ≢ r.coefs)) n ns other) apart,
    )

-- and with one in the place of another of the same terms
pub apart_set : (rows : List Row) (steps : List ComboStep) (ns : List ℕ) (at m old : ℕ) (r s : Row) → slice_get ns at ≡ Some old → slice_get (numbered rows steps) m ≡ Some (Some s) → slice_get (numbered rows steps) old ≡ Some (Some r) → s.coefs ≡ r.coefs → AreApart rows steps ns → AreApart rows steps (slice_set ns at m)
apart_set rows steps [] at m old r s is new was same apart = absurd (cc)
apart_set rows steps (n ∷ ns) zero m old r s is new was same ((t, e, from), apart) =
    let here : t ≡ r = cc in
    let terms : t.coefs ≡ s.coefs = ap (λ (z : Row). z.coefs) here ∙ sym same in
    ((s, new, subst (λ c. HaveRows rows steps (λ u. u.coefs ≢ c) ns) terms from), apart)
apart_set rows steps (n ∷ ns) (suc at) m old r s is new was same ((t, e, from), apart) =
    ((t, e, set_other ns at from is), apart_set rows steps ns at m old r s is new was same apart)
  where
    set_other : (ks : List ℕ) (i : ℕ) → HaveRows rows steps (λ u. u.coefs ≢ t.coefs) ks → slice_get ks i ≡ Some old → HaveRows rows steps (λ u. u.coefs ≢ t.coefs) (slice_set ks i m)
    set_other [] i all f = absurd (cc)
    set_other (k ∷ ks) zero all f =
        let there : k ≡ old = cc in
        let differs = one_row rows steps (λ u. u.coefs ≢ t.coefs) old r was (subst (HasRow rows steps (λ u. u.coefs ≢ t.coefs)) there (All-head (HasRow rows steps (λ u. u.coefs ≢ t.coefs)) k ks all)) in
        All-cons (HasRow rows steps (λ u. u.coefs ≢ t.coefs)) m ks (s, new, λ f. differs (sym same ∙ f)) (All-tail (HasRow rows steps (λ u. u.coefs ≢ t.coefs)) k ks all)
    set_other (k ∷ ks) (suc i) all f =
        All-cons (HasRow rows steps (λ u. u.coefs ≢ t.coefs)) k (slice_set ks i m) (All-head (HasRow rows steps (λ u. u.coefs ≢ t.coefs)) k ks all) (set_other ks i (All-tail (HasRow rows steps (λ u. u.coefs ≢ t.coefs)) k ks all) f)

-- numbers among those of some
pub have_among : (rows : List Row) (steps : List ComboStep) (P : Row → Type 0) (numbers few : List ℕ) → HaveRows rows steps P numbers → All (Contains numbers) few → HaveRows rows steps P few
have_among rows steps P numbers few have among =
    All-weaker (Contains numbers) (HasRow rows steps P) (λ n h. All-contains (HasRow rows steps P) numbers n have h) few among

-- numbers among those of some, and one of them
pub among_more : (numbers old new : List ℕ) (n : ℕ) → Contains numbers n → All (Contains numbers) old → All (λ k. Contains old k ⊎ (k ≡ n)) new → All (Contains numbers) new
among_more numbers old new n there among h =
    All-weaker (λ k. Contains old k ⊎ (k ≡ n)) (Contains numbers) each new h
  where
    each : (k : ℕ) → Contains old k ⊎ (k ≡ n) → Contains numbers k
    each k (inl c) = All-contains (Contains numbers) old k among c
    each k (inr e) = subst (Contains numbers) (sym e) there

-- rows that all follow from numbers follow from those that these follow from
pub follow_all : (rows : List Row) (steps : List ComboStep) (numbers others some : List ℕ) → HaveRows rows steps (FollowsFrom rows steps others) numbers → HaveRows rows steps (FollowsFrom rows steps numbers) some → HaveRows rows steps (FollowsFrom rows steps others) some
follow_all rows steps numbers others some all h =
    have_weaker rows steps (FollowsFrom rows steps numbers) (FollowsFrom rows steps others) some (λ r f. follows_on rows steps numbers others r all f) h

-- a number whose row has the terms of one that is there, and no lower bound, follows
pub old_follows : (rows : List Row) (steps : List ComboStep) (ns : List ℕ) (at old m : ℕ) (r s : Row) → slice_get ns at ≡ Some old → slice_get (numbered rows steps) m ≡ Some (Some s) → slice_get (numbered rows steps) old ≡ Some (Some r) → Implies r s → HasRow rows steps (FollowsFrom rows steps ns) m
old_follows rows steps ns at old m r s is new was implies =
    (s, new, (old, get_there ns at old is, (r, was, implies)))
  where
    get_there : (ks : List ℕ) (i k : ℕ) → slice_get ks i ≡ Some k → Contains ks k
    get_there [] i k e = absurd (cc)
    get_there (n ∷ ks) zero k e =
        let same : n ≡ k = cc in subst (Contains (n ∷ ks)) same (first_in n ks)
    get_there (n ∷ ks) (suc i) k e = later_in n ks k (get_there ks i k e)

-- the row of a number that is there
pub same_terms : (rows : List Row) (steps : List ComboStep) (ns : List ℕ) (at n : ℕ) (s r : Row) → slice_get ns at ≡ Some n → slice_get (numbered rows steps) (get_or ns at 0) ≡ Some (Some r) → HasRow rows steps (λ t. t.coefs ≡ s.coefs) n → (slice_get (numbered rows steps) n ≡ Some (Some r)) × (r.coefs ≡ s.coefs)
same_terms rows steps ns at n s r is here has =
    let there : slice_get (numbered rows steps) n ≡ Some (Some r) = ap (slice_get (numbered rows steps)) (sym (get_or_from_slice_get ns at n 0 is)) ∙ here in
    (there, one_row rows steps (λ t. t.coefs ≡ s.coefs) n r there has)

-- the rows handed in all follow from those that are kept
pub given_follow : (rows : List Row) (steps : List ComboStep) (numbers kept : List ℕ) → HaveRows rows steps (FollowsFrom rows steps kept) numbers → ((i : ℕ) → i < length rows → Contains numbers i) → (i : ℕ) → i < length rows → HasRow rows steps (FollowsFrom rows steps kept) i
given_follow rows steps numbers kept all there i lt =
    All-contains (HasRow rows steps (FollowsFrom rows steps kept)) numbers i all (there i lt)
