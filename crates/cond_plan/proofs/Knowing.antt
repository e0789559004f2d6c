-- What is known of numbers at a point where the orders and equalities among assumptions hold.
use Rattle.std.specs.Prelude.{◌≡◌, Bool, true, false, ◌&&◌, IsTrue, ℤ, pos, ◌+ℤ◌, ◌*ℤ◌, ◌≤ℤ◌, ◌⊎◌, List, Contains, MatchBool}
use Rattle.std.proofs.Common.{refl, ap, sym, subst, ◌∙◌, arith, inl, inr}
use Rattle.std.proofs.lemmas.Int.{ints}
use Rattle.std.proofs.lemmas.List.Elements.{All-contains}
use Rattle.lin_rows.specs.declared.Point.{Point}
use Rattle.terms.specs.declared.Term.{Term, Term-F, Add, Lit, map-Term, out-Term, fold_out-Term}
use Rattle.terms.specs.declared.Literal.{Literal}
use Rattle.terms.specs.declared.Literal.TheVariants as lit
use Rattle.terms.specs.Sorts.{of_numbers, number_step as sort_step}
use Rattle.terms.specs.Meanings.{Valued, Number, number_at, meaning_at, IsAtMost, AreApart}
use Rattle.terms.specs.MeaningLaws.{number_meant}
use Rattle.proof_checker.specs.Conditions.{plus_one}
use Rattle.proof_checker.specs.Derivations.{AreNumbers}
use Rattle.cond_plan.specs.PointValues.{valued_at, HoldsAtPoint, of_order, IsMet, AreApartAt, AreEqualAt}
use Rattle.cond_plan.specs.declared.plan.Comparison.{Comparison}
use Rattle.cond_plan.specs.Needs.{IsSettled}
use Rattle.cond_plan.proofs.Numbers.{out-Add, out-Lit, number_is}

abbrev sort_of : Term-F Term → Bool
sort_of x = sort_step (map-Term Term Bool of_numbers x)

sort_is : (t : Term) (x : Term-F Term) → out-Term t ≡ x → of_numbers t ≡ sort_of x
sort_is t x e = fold_out-Term Bool sort_step t ∙ ap sort_of e

both_true : (a b : Bool) → IsTrue a → IsTrue b → IsTrue (a && b)
both_true true b h k = k
both_true false b h k = absurd (cc)

-- a number and one unit
pub more_is_number : (t : Term) → IsTrue (of_numbers t) → IsTrue (of_numbers (plus_one t))
more_is_number t h =
    let one : IsTrue (of_numbers (Lit (pos 1))) = sort_is (Lit (pos 1)) (Term-F.Lit (pos 1)) (out-Lit (pos 1)) in
    sort_is (plus_one t) (Term-F.Add t (Lit (pos 1))) (out-Add t (Lit (pos 1))) ∙ both_true (of_numbers t) (of_numbers (Lit (pos 1))) h one

more_is : (m : Valued) (t : Term) → number_at m (plus_one t) ≡ number_at m t +ℤ pos 1 *ℤ m.unit
more_is m t =
    number_is m (plus_one t) (Term-F.Add t (Lit (pos 1))) (out-Add t (Lit (pos 1))) ∙ ap (λ z. number_at m t +ℤ z) (number_is m (Lit (pos 1)) (Term-F.Lit (pos 1)) (out-Lit (pos 1)))

below : (m : Valued) (a b : Term) → AreNumbers a b → IsAtMost (meaning_at m (plus_one a)) (meaning_at m b) → (number_at m a +ℤ m.unit) ≤ℤ number_at m b
below m a b n h =
    let x = number_meant m (plus_one a) (more_is_number a n.left) ∙ ap (λ (z : ℤ). Number z) (more_is m a) in
    let y = number_meant m b n.right in
    let le : (number_at m a +ℤ pos 1 *ℤ m.unit) ≤ℤ number_at m b = subst (λ u. IsAtMost (Number (number_at m a +ℤ pos 1 *ℤ m.unit)) u) y (subst (λ u. IsAtMost u (meaning_at m b)) x h) in
    omega (arith, ints, le)

apart_by : (m : Valued) (a b : Term) → AreNumbers a b → ((number_at m a +ℤ m.unit) ≤ℤ number_at m b) ⊎ ((number_at m b +ℤ m.unit) ≤ℤ number_at m a) → AreApart m.unit (meaning_at m a) (meaning_at m b)
apart_by m a b n d =
    subst (λ u. AreApart m.unit u (meaning_at m b)) (sym (number_meant m a n.left)) (subst (λ u. AreApart m.unit (Number (number_at m a)) u) (sym (number_meant m b n.right)) d)

-- an order or an equality that is assumed
holds_there : (p : Point) (fs : List Literal) (l : Literal) → IsMet fs p → IsTrue (of_order l) → Contains fs l → HoldsAtPoint p l
holds_there p fs l met is there =
    All-contains (λ k. IsTrue (of_order k) → HoldsAtPoint p k) fs l met.hold there is

pub below_apart : (p : Point) (fs : List Literal) (a b : Term) → IsMet fs p → AreNumbers a b → Contains fs (lit.AtMost (plus_one a) b) → AreApartAt p a b
below_apart p fs a b met n there references flags =
    let is = both_true (of_numbers (plus_one a)) (of_numbers b) (more_is_number a n.left) n.right in
    let m = valued_at p references flags in
    apart_by m a b n (inl (below m a b n (holds_there p fs (lit.AtMost (plus_one a) b) met is there references flags)))

pub above_apart : (p : Point) (fs : List Literal) (a b : Term) → IsMet fs p → AreNumbers a b → Contains fs (lit.AtMost (plus_one b) a) → AreApartAt p a b
above_apart p fs a b met n there references flags =
    let turned : AreNumbers b a = record { left = n.right; right = n.left } in
    let is = both_true (of_numbers (plus_one b)) (of_numbers a) (more_is_number b n.right) n.left in
    let m = valued_at p references flags in
    apart_by m a b n (inr (below m b a turned (holds_there p fs (lit.AtMost (plus_one b) a) met is there references flags)))

pub same_equal : (p : Point) (fs : List Literal) (a b : Term) → IsMet fs p → AreNumbers a b → Contains fs (lit.Same a b) → AreEqualAt p a b
same_equal p fs a b met n there references flags =
    holds_there p fs (lit.Same a b) met (both_true (of_numbers a) (of_numbers b) n.left n.right) there references flags

pub equal_told : (p : Point) (fs : List Literal) (a b : Term) (r : Bool) → IsMet fs p → AreNumbers a b → ((IsTrue r → Contains fs (lit.Same a b)) × (Contains fs (lit.Same a b) → IsTrue r)) → MatchBool r (AreEqualAt p a b) (¬ (Contains fs (lit.Same a b)))
equal_told p fs a b true met n both = same_equal p fs a b met n (both.0 refl)
equal_told p fs a b false met n both = λ there. let e : ◌≡◌ {A = Bool} false true = both.1 there in absurd (cc)

pub none_from : (r : Bool) (P : Type 0) → (P → IsTrue r) → r ≡ false → ¬ P
none_from r P f e there = let h : r ≡ true = f there in absurd (cc)

-- comparisons that are settled
pub apart_settled : (p : Point) (fs : List Literal) (k : Comparison) → AreApartAt p k.left k.right → IsSettled p fs k
apart_settled p fs k h = record { clear = λ references flags. inr (h references flags); apart = λ _. h }

pub equal_settled : (p : Point) (fs : List Literal) (k : Comparison) → AreEqualAt p k.left k.right → ¬ (Contains fs (lit.Apart k.left k.right)) → IsSettled p fs k
equal_settled p fs k h none = record { clear = λ references flags. inl (h references flags); apart = λ there. absurd (none there) }
