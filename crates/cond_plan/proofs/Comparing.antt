-- What is listed of comparisons.
use Rattle.std.specs.Prelude.{◌≡◌, ℕ, zero, suc, ◌+◌, ◌<◌, ◌==◌, ◌&&◌, Bool, true, false, if◌then◌else◌, IsTrue, List, [], ◌∷◌, ◌++◌, length, drop, ◌≤◌, All, Contains, Option, Some, None, slice_get}
use Rattle.std.proofs.Common.{refl, ap, sym, subst, ◌∙◌, arith, append-nil}
use Rattle.std.proofs.lemmas.List.{drop_all}
use Rattle.std.proofs.lemmas.List.Elements.{All-nil, All-cons, All-head, All-tail, All-append, All-weaker, Contains-append_left, Contains-append_right}
use Rattle.terms.specs.declared.Term.{Term}
use Rattle.terms.specs.declared.Literal.{Literal}
use Rattle.terms.specs.Fitting.{AppliedIn, sides_of}
use Rattle.terms.specs.Sorts.{of_numbers}
use Rattle.terms.specs.SamenessLaws.{nat_same, nat_itself}
use Rattle.proof_checker.specs.declared.Condition.{Condition}
use Rattle.proof_checker.specs.Conditions.{literals_of, IsSorted}
use Rattle.proof_checker.specs.Derivations.{AreNumbers}
use Rattle.cond_plan.specs.declared.plan.Comparison.{Comparison}
use Rattle.cond_plan.specs.declared.plan.Applied.{Applied}
use Rattle.cond_plan.specs.Applied.{application_of}
use Rattle.cond_plan.specs.Compared.{as_sides, as_operands}
use Rattle.cond_plan.specs.Listed.{comparison, of_pair, of_sides, of_literals, of_operands, of_two, of_others, of_applications}
use Rattle.cond_plan.specs.Plans.{IsComparison, IsListed, IsPlaced, AreApplications, AreComparisons}
use Rattle.cond_plan.proofs.Places.{one, none_there, none_at, at_head, by_place, all_at}
use Rattle.cond_plan.proofs.Standing.{stands_among}
use Rattle.cond_plan.proofs.Sorted.{both, placed_numbers}

-- ---- where each part is listed
listed_left : (ks js : List Comparison) (a b : Term) → IsListed ks a b → IsListed (ks ++ js) a b
listed_left ks js a b (k, h, p, q) = (k, Contains-append_left ks js k h, p, q)

listed_right : (ks js : List Comparison) (a b : Term) → IsListed js a b → IsListed (ks ++ js) a b
listed_right ks js a b (k, h, p, q) = (k, Contains-append_right ks js k h, p, q)

both_true : (a b : Bool) → IsTrue a → IsTrue b → (a && b) ≡ true
both_true true b p q = q
both_true false b p q = absurd (cc)

same_operator : (m n : ℕ) → m ≡ n → (m == n) ≡ true
same_operator m n e = subst (λ k. (m == k) ≡ true) e (nat_itself m)

listed_pair : (n : ℕ) (a b : Term) → AreNumbers a b → IsListed (of_pair n (Some (a, b))) a b
listed_pair n a b h =
    let test = both_true (of_numbers a) (of_numbers b) h.left h.right in
    subst (λ (t : Bool). IsListed (if t then comparison n a b ∷ [] else []) a b) (sym test) (comparison n a b, at_head (comparison n a b) [], refl, refl)

listed_literals : (n : ℕ) (ls : List Literal) (l : Literal) (a b : Term) → Contains ls l → sides_of l ≡ Some (a, b) → AreNumbers a b → IsListed (of_literals n ls) a b
listed_literals n [] l a b h e m = absurd (none_there l h)
listed_literals n (k ∷ ls) l a b h e m = by_place (IsListed (of_literals n (k ∷ ls)) a b) k ls l (λ is. listed_left (of_sides n k) (of_literals (n + 1) ls) a b (subst (λ o. IsListed (of_pair n o) a b) (sym (ap sides_of is ∙ e)) (listed_pair n a b m))) (λ more. listed_right (of_sides n k) (of_literals (n + 1) ls) a b (listed_literals (n + 1) ls l a b more e m)) h

listed_operands : (n : ℕ) (xs ys : List Term) (k : ℕ) (a b : Term) → slice_get xs k ≡ Some a → slice_get ys k ≡ Some b → IsListed (of_operands n xs ys) a b
listed_operands n [] ys k a b p q = absurd (none_at a k p)
listed_operands n (x ∷ xs) [] k a b p q = absurd (none_at b k q)
listed_operands n (x ∷ xs) (y ∷ ys) zero a b p q =
    (comparison n x y, at_head (comparison n x y) (of_operands n xs ys), one x a p, one y b q)
listed_operands n (x ∷ xs) (y ∷ ys) (suc k) a b p q =
    listed_right (comparison n x y ∷ []) (of_operands n xs ys) a b (listed_operands n xs ys k a b p q)

listed_two : (f g : Applied) (k : ℕ) (a b : Term) → f.operator ≡ g.operator → slice_get f.operands k ≡ Some a → slice_get g.operands k ≡ Some b → IsListed (of_two f g) a b
listed_two f g k a b e p q =
    subst (λ (t : Bool). IsListed (if t then of_operands f.place f.operands g.operands else []) a b) (sym (same_operator f.operator g.operator e)) (listed_operands f.place f.operands g.operands k a b p q)

listed_others : (f : Applied) (gs : List Applied) (j : ℕ) (g : Applied) (k : ℕ) (a b : Term) → slice_get gs j ≡ Some g → f.operator ≡ g.operator → slice_get f.operands k ≡ Some a → slice_get g.operands k ≡ Some b → IsListed (of_others f gs) a b
listed_others f [] j g k a b at e p q = absurd (none_at g j at)
listed_others f (h ∷ gs) zero g k a b at e p q =
    listed_left (of_two f h) (of_others f gs) a b (subst (λ x. IsListed (of_two f x) a b) (sym (one h g at)) (listed_two f g k a b e p q))
listed_others f (h ∷ gs) (suc j) g k a b at e p q =
    listed_right (of_two f h) (of_others f gs) a b (listed_others f gs j g k a b at e p q)

listed_applications : (fs : List Applied) (i j : ℕ) (f g : Applied) (k : ℕ) (a b : Term) → i < j → slice_get fs i ≡ Some f → slice_get fs j ≡ Some g → f.operator ≡ g.operator → slice_get f.operands k ≡ Some a → slice_get g.operands k ≡ Some b → IsListed (of_applications fs) a b
listed_applications [] i j f g k a b lt at_f at_g e p q = absurd (none_at f i at_f)
listed_applications (h ∷ fs) i zero f g k a b lt at_f at_g e p q = absurd (omega (arith, lt))
listed_applications (h ∷ fs) zero (suc j) f g k a b lt at_f at_g e p q =
    listed_left (of_others h fs) (of_applications fs) a b (subst (λ x. IsListed (of_others x fs) a b) (sym (one h f at_f)) (listed_others f fs j g k a b at_g e p q))
listed_applications (h ∷ fs) (suc i) (suc j) f g k a b lt at_f at_g e p q =
    listed_right (of_others h fs) (of_applications fs) a b (listed_applications fs i j f g k a b (omega (arith, lt)) at_f at_g e p q)

-- ---- what holds of all that is listed
module _ (P : Comparison → Type 0) where
  all_pair : (n : ℕ) (o : Option (Term × Term)) → ((a b : Term) → o ≡ Some (a, b) → AreNumbers a b → P (comparison n a b)) → All P (of_pair n o)
  all_pair n None h = All-nil P
  all_pair n (Some (a, b)) h = elim (of_numbers a && of_numbers b) as (λ t. (of_numbers a && of_numbers b) ≡ t → All P (if t then comparison n a b ∷ [] else [])) [
    | true ↦ λ e.
        let (p, q) = both (of_numbers a) (of_numbers b) e in
        All-cons P (comparison n a b) [] (h a b refl (record { left = p; right = q })) (All-nil P)
    | false ↦ λ e. All-nil P
  ] refl

  all_literals : (n : ℕ) (ls : List Literal) → ((k : ℕ) (l : Literal) (a b : Term) → slice_get ls k ≡ Some l → sides_of l ≡ Some (a, b) → AreNumbers a b → P (comparison (n + k) a b)) → All P (of_literals n ls)
  all_literals n [] h = All-nil P
  all_literals n (l ∷ ls) h =
      let first : n + 0 ≡ n = omega arith in
      All-append P (of_sides n l) (of_literals (n + 1) ls) (all_pair n (sides_of l) (λ a b e m. subst (λ z. P (comparison z a b)) first (h 0 l a b refl e m))) (all_literals (n + 1) ls (λ k l' a b at e m. subst (λ z. P (comparison z a b)) (shifted n k) (h (suc k) l' a b at e m)))
    where
      shifted : (n k : ℕ) → n + suc k ≡ n + 1 + k
      shifted n k = omega arith

  all_operands : (n : ℕ) (xs ys : List Term) → ((k : ℕ) (a b : Term) → slice_get xs k ≡ Some a → slice_get ys k ≡ Some b → P (comparison n a b)) → All P (of_operands n xs ys)
  all_operands n [] ys h = All-nil P
  all_operands n (x ∷ xs) [] h = All-nil P
  all_operands n (x ∷ xs) (y ∷ ys) h =
      All-cons P (comparison n x y) (of_operands n xs ys) (h 0 x y refl refl) (all_operands n xs ys (λ k a b p q. h (suc k) a b p q))

  abbrev Pairs : Applied → Applied → Type 0
  Pairs f g = f.operator ≡ g.operator → (k : ℕ) (a b : Term) → slice_get f.operands k ≡ Some a → slice_get g.operands k ≡ Some b → P (comparison f.place a b)

  all_two : (f g : Applied) → Pairs f g → All P (of_two f g)
  all_two f g h = elim (f.operator == g.operator) as (λ t. (f.operator == g.operator) ≡ t → All P (if t then of_operands f.place f.operands g.operands else [])) [
    | true ↦ λ e. all_operands f.place f.operands g.operands (h (nat_same f.operator g.operator e))
    | false ↦ λ e. All-nil P
  ] refl

  all_others : (f : Applied) (gs : List Applied) → All (Pairs f) gs → All P (of_others f gs)
  all_others f [] h = All-nil P
  all_others f (g ∷ gs) h = All-append P (of_two f g) (of_others f gs) (all_two f g (All-head (Pairs f) g gs h)) (all_others f gs (All-tail (Pairs f) g gs h))

  all_applications : (Q : Applied → Type 0) → ((f g : Applied) → Q f → Q g → Pairs f g) → (fs : List Applied) → All Q fs → All P (of_applications fs)
  all_applications Q h [] all = All-nil P
  all_applications Q h (f ∷ fs) all =
      All-append P (of_others f fs) (of_applications fs) (all_others f fs (All-weaker Q (Pairs f) (λ g q. h f g (All-head Q f fs all) q) fs (All-tail Q f fs all))) (all_applications Q h fs (All-tail Q f fs all))

-- ---- the comparisons of a condition
placed_among : (c : Condition) (f : Applied) → IsPlaced c f → AppliedIn (literals_of c) (application_of f)
placed_among c f h = let (t, stands, is) = h.stands in (t, stands_among (literals_of c) f.place h.literal t h.at_place stands, is)

pair_compared : (c : Condition) → IsSorted c → (f g : Applied) → IsPlaced c f → IsPlaced c g → f.operator ≡ g.operator → (k : ℕ) (a b : Term) → slice_get f.operands k ≡ Some a → slice_get g.operands k ≡ Some b → IsComparison c (comparison f.place a b)
pair_compared c s f g at_f at_g e k a b p q =
    let first : AreNumbers a a = all_at (λ t. AreNumbers t t) f.operands k a (placed_numbers c f s at_f).1 p in
    let second : AreNumbers b b = all_at (λ t. AreNumbers t t) g.operands k b (placed_numbers c g s at_g).1 q in record {
      numbers = record { left = first.left; right = second.right };
      compared = as_operands at_f.literal (application_of f) (application_of g) k a b at_f.at_place at_f.stands (placed_among c g at_g) e p q;
    }

sides_compared : (c : Condition) (k : ℕ) (l : Literal) (a b : Term) → slice_get (literals_of c) k ≡ Some l → sides_of l ≡ Some (a, b) → AreNumbers a b → IsComparison c (comparison (0 + k) a b)
sides_compared c k l a b at e m =
    let same : k ≡ 0 + k = omega arith in
    subst (λ n. IsComparison c (comparison n a b)) same (record { numbers = m; compared = as_sides l a b at e })

listed_all : (c : Condition) (fs : List Applied) → IsSorted c → AreApplications c fs → AreComparisons c fs (of_literals 0 (literals_of c) ++ of_applications fs)
listed_all c fs s h =
    let front = of_literals 0 (literals_of c) in
    let rest = of_applications fs in record {
      compared = All-append (IsComparison c) front rest (all_literals (IsComparison c) 0 (literals_of c) (sides_compared c)) (all_applications (IsComparison c) (IsPlaced c) (pair_compared c s) fs h.placed);
      sides = λ l a b there e m. listed_left front rest a b (listed_literals 0 (literals_of c) l a b there e m);
      operands = λ i j f g k a b lt at_f at_g e p q. listed_right front rest a b (listed_applications fs i j f g k a b lt at_f at_g e p q);
    }

pub are_comparisons : (c : Condition) (fs : List Applied) (ks : List Comparison) → IsSorted c → AreApplications c fs → ks ≡ of_literals 0 (literals_of c) ++ of_applications fs → AreComparisons c fs ks
are_comparisons c fs ks s h e = subst (AreComparisons c fs) (sym e) (listed_all c fs s h)

-- where nothing is left all is listed
pub nothing_left : (ks all : List Comparison) (fs : List Applied) (i : ℕ) → length fs ≤ i → ks ++ of_applications (drop i fs) ≡ all → ks ≡ all
nothing_left ks all fs i le so_far =
    sym (append-nil ks) ∙ ap (λ zs. ks ++ of_applications zs) (sym (drop_all i fs le)) ∙ so_far
