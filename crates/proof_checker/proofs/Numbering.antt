-- The applications of a condition are numbered as they are counted.
use Rattle.std.specs.Prelude.{◌≡◌, ℕ, zero, suc, ◌+◌, Bool, true, false, not, ◌⊎◌, IsTrue, List, [], ◌∷◌, ◌++◌, Contains, Option, Some, None, slice_get}
use Rattle.std.proofs.Common.{refl, ap, sym, subst, ◌∙◌, arith, inl, inr}
use Rattle.std.proofs.lemmas.List.Elements.{Contains-append_left, Contains-push, Contains-push_cases}
use Rattle.terms.specs.declared.Term.{Term}
use Rattle.terms.specs.Fitting.{Application, Applies}
use Rattle.terms.specs.Sameness.{same_term}
use Rattle.terms.specs.SamenessLaws.{same_is_equal, equal_is_same}
use Rattle.proof_checker.specs.Derivations.{Numbered, here, later, again, other}
use Rattle.proof_checker.specs.Views.{has}
use Rattle.proof_checker.specs.Uses.{applied_by, chosen_at, chosen_in, is_new}
use Rattle.proof_checker.proofs.Counting.{applies_is, is_applies, chosen-none, chosen-some}
use Rattle.proof_checker.proofs.Sides.{there, has_it}

-- of applications, the same stand in both lists
abbrev Agree : List Term → List Term → Type 0
Agree before ts = (t : Term) (g : Application) → Applies t g → (Contains before t → Contains ts t) × (Contains ts t → Contains before t)

one_of : (ts : List Term) (t u : Term) → Contains (ts ++ t ∷ []) u → Contains ts u ⊎ (t ≡ u)
one_of ts t u h = Contains-push_cases ts t u h

agree_more : (before seen : List Term) (t : Term) → Agree before seen → Agree (before ++ t ∷ []) (seen ++ t ∷ [])
agree_more before seen t agree u g is = (λ h. both before seen (λ k. (agree u g is).0 k) (one_of before t u h), λ h. both seen before (λ k. (agree u g is).1 k) (one_of seen t u h))
  where
    both : (xs ys : List Term) → (Contains xs u → Contains ys u) → Contains xs u ⊎ (t ≡ u) → Contains (ys ++ t ∷ []) u
    both xs ys k (inl h) = Contains-append_left ys (t ∷ []) u (k h)
    both xs ys k (inr e) = subst (Contains (ys ++ t ∷ [])) e (Contains-push ys t)

agree_again : (before seen : List Term) (t : Term) → (((g : Application) → ¬ (Applies t g)) ⊎ Contains before t) → Agree before seen → Agree before (seen ++ t ∷ [])
agree_again before seen t either agree u g is = (λ h. Contains-append_left seen (t ∷ []) u ((agree u g is).0 h), λ h. back either (one_of seen t u h))
  where
    back : ((g : Application) → ¬ (Applies t g)) ⊎ Contains before t → Contains seen u ⊎ (t ≡ u) → Contains before u
    back either (inl h) = (agree u g is).1 h
    back (inl none) (inr e) = absurd (none g (e ∙ is))
    back (inr h) (inr e) = subst (Contains before) e h

not_seen : (ts : List Term) (t : Term) → ¬ (Contains ts t) → not (has ts t) ≡ true
not_seen ts t none = elim (has ts t) as (λ b. has ts t ≡ b → not b ≡ true) [
  | true ↦ λ e. absurd (none (there ts t e))
  | false ↦ λ e. refl
] refl

is_seen : (ts : List Term) (t : Term) → Contains ts t → not (has ts t) ≡ false
is_seen ts t h = ap not (has_it ts t h)

abbrev rest_chosen : List Term → Term → List Term → List Application
rest_chosen seen t ts = chosen_in is_new (seen ++ t ∷ []) ts

chosen-skip : (seen : List Term) (t : Term) (ts : List Term) (n : ℕ) → chosen_at (is_new seen t) (applied_by t) ≡ [] → slice_get (chosen_in is_new seen (t ∷ ts)) n ≡ slice_get (rest_chosen seen t ts) n
chosen-skip seen t ts n e = ap (λ fs. slice_get (fs ++ rest_chosen seen t ts) n) e

chosen-keep : (seen : List Term) (t : Term) (ts : List Term) (f : Application) (n : ℕ) → applied_by t ≡ Some f → not (has seen t) ≡ true → slice_get (chosen_in is_new seen (t ∷ ts)) n ≡ slice_get (f ∷ rest_chosen seen t ts) n
chosen-keep seen t ts f n e h = ap (λ fs. slice_get (fs ++ rest_chosen seen t ts) n) (chosen-some (is_new seen t) (applied_by t) f true e h)

-- what is skipped: no application, or one that stands before
skipped : (before seen : List Term) (t : Term) → Agree before seen → Contains before t → chosen_at (is_new seen t) (applied_by t) ≡ []
skipped before seen t agree h = elim (applied_by t) as (λ o. applied_by t ≡ o → chosen_at (is_new seen t) (applied_by t) ≡ []) [
  | None ↦ λ e. chosen-none (is_new seen t) (applied_by t) e
  | Some f ↦ λ e. chosen-some (is_new seen t) (applied_by t) f false e (is_seen seen t ((agree t f (is_applies t f e)).0 h))
] refl

no_application : (t : Term) → ((g : Application) → ¬ (Applies t g)) → applied_by t ≡ None
no_application t none = elim (applied_by t) as (λ o. applied_by t ≡ o → applied_by t ≡ None) [
  | None ↦ λ e. e
  | Some f ↦ λ e. absurd (none f (is_applies t f e))
] refl

next_number : (f : Application) (fs : List Application) (n : ℕ) → slice_get (f ∷ fs) (n + 1) ≡ slice_get fs n
next_number f fs n = let same : n + 1 ≡ suc n = omega arith in ap (slice_get (f ∷ fs)) same

pub numbered_counted : (before ts : List Term) (n : ℕ) (f : Application) (seen : List Term) → Agree before seen → Numbered before ts n f → slice_get (chosen_in is_new seen ts) n ≡ Some f
numbered_counted _ _ _ _ seen agree (here before t ts f is none) =
    chosen-keep seen t ts f 0 (applies_is t f is) (not_seen seen t (λ h. none ((agree t f is).1 h)))
numbered_counted _ _ _ _ seen agree (later before t ts g n f is none more) =
    chosen-keep seen t ts g (n + 1) (applies_is t g is) (not_seen seen t (λ h. none ((agree t g is).1 h)))
    ∙ next_number g (rest_chosen seen t ts) n
    ∙ numbered_counted (before ++ t ∷ []) ts n f (seen ++ t ∷ []) (agree_more before seen t agree) more
numbered_counted _ _ _ _ seen agree (again before t ts n f h more) =
    chosen-skip seen t ts n (skipped before seen t agree h) ∙ numbered_counted before ts n f (seen ++ t ∷ []) (agree_again before seen t (inr h) agree) more
numbered_counted _ _ _ _ seen agree (other before t ts n f none more) =
    chosen-skip seen t ts n (chosen-none (is_new seen t) (applied_by t) (no_application t none)) ∙ numbered_counted before ts n f (seen ++ t ∷ []) (agree_again before seen t (inl none) agree) more

not_some : (t : Term) → applied_by t ≡ None → (g : Application) → ¬ (Applies t g)
not_some t e g is = let some = applies_is t g is in absurd (cc (e, some))

same_application : (f g : Application) → ◌≡◌ {A = Option Application} (Some f) (Some g) → f ≡ g
same_application f g e = cc

no_rest : (n : ℕ) (f : Application) → slice_get [] n ≡ Some f → ⊥
no_rest n f e = absurd (cc)

kept : (before : List Term) (t : Term) (ts : List Term) (seen : List Term) (g : Application) (n : ℕ) (f : Application) → Agree before seen → applied_by t ≡ Some g → ¬ (Contains before t) → ((m : ℕ) → slice_get (rest_chosen seen t ts) m ≡ Some f → Numbered (before ++ t ∷ []) ts m f) → slice_get (g ∷ rest_chosen seen t ts) n ≡ Some f → Numbered before (t ∷ ts) n f
kept before t ts seen g zero f agree is none more h =
    subst (Numbered before (t ∷ ts) 0) (same_application g f h) (here before t ts g (is_applies t g is) none)
kept before t ts seen g (suc m) f agree is none more h =
    let same : m + 1 ≡ suc m = omega arith in
    subst (λ k. Numbered before (t ∷ ts) k f) same (later before t ts g m f (is_applies t g is) none (more m h))

pub counted_numbered : (ts before : List Term) (n : ℕ) (f : Application) (seen : List Term) → Agree before seen → slice_get (chosen_in is_new seen ts) n ≡ Some f → Numbered before ts n f
counted_numbered [] before n f seen agree h = absurd (no_rest n f h)
counted_numbered (t ∷ ts) before n f seen agree h = elim (applied_by t) as (λ o. applied_by t ≡ o → Numbered before (t ∷ ts) n f) [
  | None ↦ λ e. other before t ts n f (not_some t e) (counted_numbered ts before n f (seen ++ t ∷ []) (agree_again before seen t (inl (not_some t e)) agree) (sym (chosen-skip seen t ts n (chosen-none (is_new seen t) (applied_by t) e)) ∙ h))
  | Some g ↦ λ e. elim (has seen t) as (λ b. has seen t ≡ b → Numbered before (t ∷ ts) n f) [
    | true ↦ λ s.
        let was : Contains before t = (agree t g (is_applies t g e)).1 (there seen t s) in
        again before t ts n f was (counted_numbered ts before n f (seen ++ t ∷ []) (agree_again before seen t (inr was) agree) (sym (chosen-skip seen t ts n (chosen-some (is_new seen t) (applied_by t) g false e (ap not s))) ∙ h))
    | false ↦ λ s. kept before t ts seen g n f agree e (λ was. let is = has_it seen t ((agree t g (is_applies t g e)).0 was) in absurd (cc (is, s))) (λ m k. counted_numbered ts (before ++ t ∷ []) m f (seen ++ t ∷ []) (agree_more before seen t agree) k) (sym (chosen-keep seen t ts g n e (ap not s)) ∙ h)
  ] refl
] refl

agree_none : Agree [] []
agree_none t g is = (λ h. h, λ h. h)

-- the numbers of a condition's applications
pub numbered_iff : (ts : List Term) (n : ℕ) (f : Application) → (Numbered [] ts n f → slice_get (chosen_in is_new [] ts) n ≡ Some f) × (slice_get (chosen_in is_new [] ts) n ≡ Some f → Numbered [] ts n f)
numbered_iff ts n f = (numbered_counted [] ts n f [] agree_none, counted_numbered ts [] n f [] agree_none)

-- a test of equal terms is the test of sameness
pub same_tests : (a b : Term) (r : Bool) → (IsTrue r → a ≡ b) × (a ≡ b → IsTrue r) → r ≡ same_term a b
same_tests a b true h = sym (equal_is_same a b (h.0 refl))
same_tests a b false h = elim (same_term a b) as (λ t. same_term a b ≡ t → false ≡ t) [
  | true ↦ λ e. h.1 (same_is_equal a b e)
  | false ↦ λ e. refl
] refl
