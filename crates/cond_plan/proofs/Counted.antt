-- The applications of a condition in the order of their numbers.
use Rattle.std.specs.Prelude.{◌≡◌, ℕ, zero, suc, ◌+◌, true, false, not, List, [], ◌∷◌, ◌++◌, map, take, All, Contains, Some, slice_get}
use Rattle.std.proofs.Common.{refl, ap, sym, subst, ◌∙◌, arith, inl, inr}
use Rattle.std.proofs.lemmas.List.Elements.{Contains-append_right, Contains-push_cases}
use Rattle.terms.specs.declared.Term.{Term}
use Rattle.terms.specs.Fitting.{Application, AppliedIn, Applies, terms_in}
use Rattle.terms.specs.Sameness.{same_term}
use Rattle.terms.specs.SamenessLaws.{same_is_equal, equal_is_same}
use Rattle.proof_checker.specs.declared.Condition.{Condition}
use Rattle.proof_checker.specs.Conditions.{literals_of}
use Rattle.proof_checker.specs.Derivations.{Numbered, here, later, again, other}
use Rattle.proof_checker.specs.Uses.{applied_by, chosen_at, chosen_in, is_new}
use Rattle.proof_checker.specs.Views.{has}
use Rattle.proof_checker.proofs.Counting.{applies_is, chosen-some}
use Rattle.proof_checker.proofs.Numbering.{numbered_iff}
use Rattle.proof_checker.proofs.Sides.{there}
use Rattle.cond_plan.specs.declared.plan.Applied.{Applied}
use Rattle.cond_plan.specs.Applied.{application_of}
use Rattle.cond_plan.specs.Plans.{AreApplications, IsPlaced}
use Rattle.cond_plan.proofs.Places.{none_there, at_head, in_rest, by_place, one, none_at}

-- the applications, each in the place of its number
abbrev pub applications : Condition → List Application
applications c = chosen_in is_new [] (terms_in (literals_of c))

not_before : (ts : List Term) (t : Term) → ¬ (Contains ts t) → not (has ts t) ≡ true
not_before ts t off = elim (has ts t) as (λ b. has ts t ≡ b → not b ≡ true) [
  | true ↦ λ e. absurd (off (there ts t e))
  | false ↦ λ e. refl
] refl

not_more : (before : List Term) (u t : Term) → ¬ (Contains before t) → ¬ (u ≡ t) → ¬ (Contains (before ++ u ∷ []) t)
not_more before u t off unlike h = elim (Contains-push_cases before u t h) [
  | inl was ↦ off was
  | inr e ↦ unlike e
]

different : (u t : Term) → same_term u t ≡ false → ¬ (u ≡ t)
different u t e is = let on = equal_is_same u t is in absurd (cc (e, on))

-- an application that stands among terms and not before them is one of those that are counted
all_counted : (before ts : List Term) (t : Term) (f : Application) → Contains ts t → Applies t f → ¬ (Contains before t) → Contains (chosen_in is_new before ts) f
all_counted before [] t f h is off = absurd (none_there t h)
all_counted before (u ∷ ts) t f h is off = elim (same_term u t) as (λ b. same_term u t ≡ b → Contains (chosen_in is_new before (u ∷ ts)) f) [
  | true ↦ λ e.
      let same : u ≡ t = same_is_equal u t e in
      let new : not (has before u) ≡ true = not_before before u (subst (λ z. ¬ (Contains before z)) (sym same) off) in
      let first : chosen_at (is_new before u) (applied_by u) ≡ f ∷ [] = chosen-some (is_new before u) (applied_by u) f true (applies_is u f (same ∙ is)) new in
      subst (λ fs. Contains (fs ++ chosen_in is_new (before ++ u ∷ []) ts) f) (sym first) (at_head f (chosen_in is_new (before ++ u ∷ []) ts))
  | false ↦ λ e.
      let unlike = different u t e in
      let more : Contains ts t = by_place (Contains ts t) u ts t (λ q. absurd (unlike q)) (λ k. k) h in
      Contains-append_right (chosen_at (is_new before u) (applied_by u)) (chosen_in is_new (before ++ u ∷ []) ts) f (all_counted (before ++ u ∷ []) ts t f more is (not_more before u t off unlike))
] refl

-- what has a number stands there
abbrev Stands : List Term → Application → Type 0
Stands ts f = (t : Term) × Contains ts t × Applies t f

stands_more : (u : Term) (ts : List Term) (f : Application) → Stands ts f → Stands (u ∷ ts) f
stands_more u ts f (t, h, is) = (t, in_rest u ts t h, is)

numbered_stands : (before ts : List Term) (n : ℕ) (f : Application) → Numbered before ts n f → Stands ts f
numbered_stands _ _ _ _ (here before t ts f is off) = (t, at_head t ts, is)
numbered_stands _ _ _ _ (later before t ts g n f is off more) = stands_more t ts f (numbered_stands (before ++ t ∷ []) ts n f more)
numbered_stands _ _ _ _ (again before t ts n f was more) = stands_more t ts f (numbered_stands before ts n f more)
numbered_stands _ _ _ _ (other before t ts n f off more) = stands_more t ts f (numbered_stands before ts n f more)

pub stands : (c : Condition) (n : ℕ) (f : Application) → Numbered [] (terms_in (literals_of c)) n f → AppliedIn (literals_of c) f
stands c n f h = numbered_stands [] (terms_in (literals_of c)) n f h

-- ---- one after the other
take_one : (us : List Application) (n : ℕ) (u : Application) → slice_get us n ≡ Some u → take (suc n) us ≡ take n us ++ u ∷ []
take_one [] n u e = absurd (none_at u n e)
take_one (v ∷ us) zero u e = ap (λ z. z ∷ []) (one v u e)
take_one (v ∷ us) (suc n) u e = ap (λ zs. v ∷ zs) (take_one us n u e)

map_end : (fs : List Applied) (f : Applied) → map application_of (fs ++ f ∷ []) ≡ map application_of fs ++ application_of f ∷ []
map_end [] f = refl
map_end (g ∷ fs) f = ap (λ zs. application_of g ∷ zs) (map_end fs f)

pub one_more : (c : Condition) (fs : List Applied) (f : Applied) (n : ℕ) (u : Application) → map application_of fs ≡ take n (applications c) → Numbered [] (terms_in (literals_of c)) n u → application_of f ≡ u → map application_of (fs ++ f ∷ []) ≡ take (n + 1) (applications c)
one_more c fs f n u so_far at_n is =
    let next : n + 1 ≡ suc n = omega arith in
    let at : slice_get (applications c) n ≡ Some u = (numbered_iff (terms_in (literals_of c)) n u).0 at_n in
    map_end fs f
    ∙ ap (λ zs. zs ++ application_of f ∷ []) so_far
    ∙ ap (λ z. take n (applications c) ++ z ∷ []) is
    ∙ sym (take_one (applications c) n u at)
    ∙ ap (λ k. take k (applications c)) (sym next)

no_more : (us : List Application) (n : ℕ) → ((u : Application) → slice_get us n ≡ Some u → ⊥) → take n us ≡ us
no_more [] zero off = refl
no_more [] (suc n) off = refl
no_more (u ∷ us) zero off = absurd (off u refl)
no_more (u ∷ us) (suc n) off = ap (λ zs. u ∷ zs) (no_more us n off)

-- ---- the whole list
at_mapped : (fs : List Applied) (i : ℕ) (f : Applied) → slice_get fs i ≡ Some f → slice_get (map application_of fs) i ≡ Some (application_of f)
at_mapped [] i f e = absurd (none_at f i e)
at_mapped (g ∷ fs) zero f e = ap (λ z. Some (application_of z)) (one g f e)
at_mapped (g ∷ fs) (suc i) f e = at_mapped fs i f e

from_mapped : (fs : List Applied) (f : Application) → Contains (map application_of fs) f → (g : Applied) × Contains fs g × (application_of g ≡ f)
from_mapped [] f h = absurd (none_there f h)
from_mapped (g ∷ fs) f h = by_place ((k : Applied) × Contains (g ∷ fs) k × (application_of k ≡ f)) (application_of g) (map application_of fs) f (λ e. (g, at_head g fs, e)) (λ more. let (k, there_, e) = from_mapped fs f more in (k, in_rest g fs k there_, e)) h

pub are_applications : (c : Condition) (fs : List Applied) (n : ℕ) → map application_of fs ≡ take n (applications c) → ((u : Application) → ¬ (Numbered [] (terms_in (literals_of c)) n u)) → All (IsPlaced c) fs → AreApplications c fs
are_applications c fs n so_far off placed =
    let ts = terms_in (literals_of c) in
    let same : map application_of fs ≡ applications c = so_far ∙ no_more (applications c) n (λ u e. off u ((numbered_iff ts n u).1 e)) in record {
      numbered = λ i f e. (numbered_iff ts i (application_of f)).1 (ap (λ zs. slice_get zs i) (sym same) ∙ at_mapped fs i f e);
      placed = placed;
      all = λ f h. let (t, there_, is) = h in from_mapped fs f (subst (λ zs. Contains zs f) (sym same) (all_counted [] ts t f there_ is (none_there t)));
    }
