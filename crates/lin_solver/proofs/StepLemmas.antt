-- Laws of a step that is added.
use Rattle.std.specs.Prelude.{◌≡◌, ℕ, ◌+◌, ◌<◌, ℤ, pos, ◌≤ℤ◌, ◌*ℤ◌, ◌+ℤ◌, Option, FitsSigned, List, [], ◌∷◌, ◌++◌, Some, map, slice_get, length, Contains, All, refl}
use Rattle.std.proofs.Common.{sym, ap, ◌∙◌, subst, arith}
use Rattle.std.proofs.lemmas.List.Elements.{All-weaker, All-contains, Contains-push, Contains-append_left}
use Rattle.std.proofs.lemmas.Option.{get_or_from_slice_get}
use Rattle.std.specs.Int.{w128}
use Rattle.std.proofs.lemmas.Int.{ints}
use Rattle.lin_rows.specs.Rows.{MixFits}
use Rattle.lin_rows.specs.declared.row.Row.{Row}
use Rattle.lin_rows.specs.declared.step.ComboStep.{ComboStep}
use Rattle.lin_rows.specs.Terms.{coef_at}
use Rattle.lin_rows.specs.Derived.{Derived, given, summed}
use Rattle.lin_rows.specs.Steps.{StepHolds, StepsHold}
use Rattle.lin_rows.specs.StepLaws.{steps-push}
use Rattle.lin_rows.specs.TermLaws.{at_or_not}
use Rattle.lin_solver.specs.Numbers.{numbered, HasRow, HaveRows, Implies, FollowsFrom, MayBeMet, IsLive, BoundsAbove, BoundsBelow, IsSumOf, IsCovered, AreCovered, IsPrefix}
use Rattle.lin_solver.proofs.NumberLemmas.{get_within, get_back, one_row, at_given, at_step, at_grows}

-- the steps hold with one more
pub step_kept : (rows : List Row) (old new : List ComboStep) (s : ComboStep) → new ≡ old ++ s ∷ [] → StepHolds (numbered rows old) s → StepsHold (map Some rows) old → StepsHold (map Some rows) new
step_kept rows old new s is holds h =
    subst (StepsHold (map Some rows)) (sym is) (steps-push (map Some rows) old s h holds)

-- the number of the last step
pub at_last : (rows : List Row) (old new : List ComboStep) (s : ComboStep) (n : ℕ) → new ≡ old ++ s ∷ [] → n ≡ length rows + length old → slice_get (numbered rows new) n ≡ Some (Some s.row)
at_last rows old new s n is at =
    at_step rows new (length old) n s at (ap (λ z. slice_get z (length old)) is ∙ get_back old (s ∷ []) 0 (length old) s (plus_none (length old)) refl)
  where
    plus_none : (m : ℕ) → m ≡ m + 0
    plus_none m = omega arith

-- the row of a step that cancels `v` is derived before the next variable
pub sum_derived : (rows : List Row) (steps : List ComboStep) (v i j : ℕ) (r : Row) → HasRow rows steps (BoundsAbove rows v) i → HasRow rows steps (BoundsBelow rows v) j → IsSumOf rows steps v i j r → Derived rows (v + 1) r
sum_derived rows steps v i j r above below (a, e, (b, f, sum)) =
    let up = one_row rows steps (BoundsAbove rows v) i a e above in
    let down = one_row rows steps (BoundsBelow rows v) j b f below in
    summed v a b r up.0 down.0 up.1 down.1 sum

pub sum_grows : (rows : List Row) (old new : List ComboStep) (v i j : ℕ) (r : Row) → IsPrefix old new → IsSumOf rows old v i j r → IsSumOf rows new v i j r
sum_grows rows old new v i j r p (a, e, (b, f, sum)) =
    (a, at_grows rows old new i a p e, (b, at_grows rows old new j b p f, sum))

-- the last step's number is that of a live row
pub step_live : (rows : List Row) (old new : List ComboStep) (s : ComboStep) (v i j n : ℕ) → new ≡ old ++ s ∷ [] → n ≡ length rows + length old → HasRow rows old (BoundsAbove rows v) i → HasRow rows old (BoundsBelow rows v) j → IsSumOf rows old v i j s.row → MayBeMet s.row → HasRow rows new (IsLive rows (v + 1)) n
step_live rows old new s v i j n is at above below sum true_ =
    (s.row, at_last rows old new s n is at, (sum_derived rows old v i j s.row above below sum, true_))

-- and of the sum
pub step_sum : (rows : List Row) (old new : List ComboStep) (s : ComboStep) (v i j n : ℕ) → new ≡ old ++ s ∷ [] → n ≡ length rows + length old → IsSumOf rows old v i j s.row → HasRow rows new (IsSumOf rows new v i j) n
step_sum rows old new s v i j n is at sum =
    (s.row, at_last rows old new s n is at, sum_grows rows old new v i j s.row (s ∷ [], is) sum)

-- a row implies itself, and what a row implies that it implies
pub implies_itself : (r : Row) → Implies r r
implies_itself r = (refl, least r.bound)
  where
    least : (z : ℤ) → z ≤ℤ z
    least z = omega (arith, ints)

pub implies_more : (a b c : Row) → Implies a b → Implies b c → Implies a c
implies_more a b c p q = (p.0 ∙ q.0, trans a.bound b.bound c.bound p.1 q.1)
  where
    trans : (x y z : ℤ) → x ≤ℤ y → y ≤ℤ z → x ≤ℤ z
    trans x y z h k = omega (arith, ints)

-- what follows from numbers follows over more steps, from more numbers, and from those that they follow from
pub follows_grows : (rows : List Row) (old new : List ComboStep) (numbers more : List ℕ) (r : Row) → IsPrefix old new → IsPrefix numbers more → FollowsFrom rows old numbers r → FollowsFrom rows new more r
follows_grows rows old new numbers more r p q (n, there, (s, e, i)) =
    (n, subst (λ z. Contains z n) (sym q.1) (Contains-append_left numbers q.0 n there), (s, at_grows rows old new n s p e, i))

pub follows_on : (rows : List Row) (steps : List ComboStep) (numbers others : List ℕ) (r : Row) → HaveRows rows steps (FollowsFrom rows steps others) numbers → FollowsFrom rows steps numbers r → FollowsFrom rows steps others r
follows_on rows steps numbers others r all (n, there, (s, e, i)) =
    let (m, among, (t, f, j)) = one_row rows steps (FollowsFrom rows steps others) n s e (All-contains (HasRow rows steps (FollowsFrom rows steps others)) numbers n all there) in
    (m, among, (t, f, implies_more t s r j i))

-- what is covered stays so
pub covered_grows : (rows : List Row) (old new : List ComboStep) (v i j : ℕ) (next more : List ℕ) → IsPrefix old new → IsPrefix next more → IsCovered rows old v next i j → IsCovered rows new v more i j
covered_grows rows old new v i j next more p q (r, sum, follows) =
    (r, sum_grows rows old new v i j r p sum, follows_grows rows old new next more r p q follows)

covered_on : (rows : List Row) (steps : List ComboStep) (v i j : ℕ) (next others : List ℕ) → HaveRows rows steps (FollowsFrom rows steps others) next → IsCovered rows steps v next i j → IsCovered rows steps v others i j
covered_on rows steps v i j next others all (r, sum, follows) =
    (r, sum, follows_on rows steps next others r all follows)

pub are_covered_on : (rows : List Row) (steps : List ComboStep) (v : ℕ) (is js : List ℕ) (next others : List ℕ) → HaveRows rows steps (FollowsFrom rows steps others) next → AreCovered rows steps v next is js → AreCovered rows steps v others is js
are_covered_on rows steps v is js next others all h =
    All-weaker (λ i. All (IsCovered rows steps v next i) js) (λ i. All (IsCovered rows steps v others i) js)
    (λ i c. All-weaker (IsCovered rows steps v next i) (IsCovered rows steps v others i) (λ j d. covered_on rows steps v i j next others all d) js c)
    is h

pub all_covered_grow : (rows : List Row) (old new : List ComboStep) (v i : ℕ) (js : List ℕ) (next more : List ℕ) → IsPrefix old new → IsPrefix next more → All (IsCovered rows old v next i) js → All (IsCovered rows new v more i) js
all_covered_grow rows old new v i js next more p q h =
    All-weaker (IsCovered rows old v next i) (IsCovered rows new v more i) (λ j c. covered_grows rows old new v i j next more p q c) js h

pub are_covered_grow : (rows : List Row) (old new : List ComboStep) (v : ℕ) (is js : List ℕ) (next more : List ℕ) → IsPrefix old new → IsPrefix next more → AreCovered rows old v next is js → AreCovered rows new v more is js
are_covered_grow rows old new v is js next more p q h =
    All-weaker (λ i. All (IsCovered rows old v next i) js) (λ i. All (IsCovered rows new v more i) js) (λ i c. all_covered_grow rows old new v i js next more p q c) is h

-- the number that was added last covers
pub covered_last : (rows : List Row) (steps : List ComboStep) (v i j n : ℕ) (next more : List ℕ) → more ≡ next ++ n ∷ [] → HasRow rows steps (IsSumOf rows steps v i j) n → IsCovered rows steps v more i j
covered_last rows steps v i j n next more is (r, e, sum) =
    (r, sum, (n, subst (λ z. Contains z n) (sym is) (Contains-push next n), (r, e, implies_itself r)))

-- once a row and no times itself is the row
once : (z : ℤ) → z ≡ pos 1 *ℤ z +ℤ pos 0 *ℤ z
once z = omega (arith, ints)

once_fits : (z : ℤ) → FitsSigned w128 z → MixFits (pos 1) z (pos 0) z
once_fits z f =
    (subst (λ y. FitsSigned w128 y) (one z) f, subst (λ y. FitsSigned w128 y) (none z) zero_fits, subst (λ y. FitsSigned w128 y) (once z) f)
  where
    one : (z : ℤ) → z ≡ pos 1 *ℤ z
    one z = omega (arith, ints)

    none : (z : ℤ) → pos 0 ≡ pos 0 *ℤ z
    none z = omega (arith, ints)

    zero_fits : FitsSigned w128 (pos 0)
    zero_fits = omega (arith, ints)

-- the step that repeats a row that can't be met
pub false_holds : (lower : List (Option Row)) (i : ℕ) (r : Row) → slice_get lower i ≡ Some (Some r) → r.coefs ≡ [] → FitsSigned w128 r.bound → StepHolds lower (record { left = i; right = i; by_left = pos 1; by_right = pos 0; row = record { coefs = []; bound = r.bound } })
false_holds lower i r e none fits = record {
  left = r;
  right = r;
  at_left = e;
  at_right = e;
  by_left = omega (arith, ints);
  by_right = omega (arith, ints);
  fits = record {
    left = omega (arith, ints);
    right = omega (arith, ints);
    sum = record { coefs = λ v. once_fits (coef_at r.coefs v) (subst (λ z. FitsSigned w128 (coef_at z v)) (sym none) (omega (arith, ints))); bound = once_fits r.bound fits };
  };
  sum = record { coefs = λ v. sym (ap (λ z. coef_at z v) none) ∙ once (coef_at r.coefs v); bound = once r.bound };
}

-- a row handed in is live before the first variable
pub given_live : (rows : List Row) (steps : List ComboStep) (i : ℕ) (r : Row) → slice_get rows i ≡ Some r → MayBeMet r → HasRow rows steps (IsLive rows 0) i
given_live rows steps i r e true_ =
    (r, at_given rows steps i r e, (given r (i, get_within rows i r e, get_or_from_slice_get rows i r r e), true_))

-- all numbers up to one are in a list
pub all_numbers_more : (xs : List ℕ) (n : ℕ) → ((i : ℕ) → i < n → Contains xs i) → (i : ℕ) → i < n + 1 → Contains (xs ++ n ∷ []) i
all_numbers_more xs n h i lt = at_or_not i n
    (λ e. subst (λ z. Contains (xs ++ n ∷ []) z) (sym e) (Contains-push xs n))
    (λ other. Contains-append_left xs (n ∷ []) i (h i (omega arith)))
