-- The orders of literals that the search assumes are orders of the condition's literals.
use Rattle.std.specs.Prelude.{◌≡◌, ℕ, [], ◌∷◌, Some, slice_get}
use Rattle.std.proofs.Common.{refl, sym, subst}
use Rattle.terms.specs.declared.Term.{Term}
use Rattle.terms.specs.declared.Literal.{Literal}
use Rattle.terms.specs.declared.Literal.TheVariants as lit
use Rattle.terms.specs.Fitting.{Application, AppliedIn}
use Rattle.proof_checker.specs.declared.Condition.{Condition}
use Rattle.proof_checker.specs.Conditions.{literals_of, plus_one}
use Rattle.proof_checker.specs.Derivations.{AreNumbers}
use Rattle.cond_plan.specs.Compared.{ComparedIn, OrderIn, of_comparison, of_results, of_results_turned, at_most, at_least, below, above}
use Rattle.cond_facts.specs.Decisions.{IsOrderOf}
use Rattle.cond_facts.specs.Decisions as decided

at_most_of : (P : Term → Term → Type 0) (l : Literal) (a b x y : Term) → l ≡ lit.AtMost a b → P a b → IsOrderOf l x y → P x y
at_most_of P l a b x y e h (decided.at_most u v numbers) = let (p, q) = sides_are u v a b e in subst (λ z. P z v) (sym p) (subst (λ z. P a z) (sym q) h)
  where
    sides_are : (u v a b : Term) → lit.AtMost u v ≡ lit.AtMost a b → (u ≡ a) × (v ≡ b)
    sides_are u v a b e = (cc, cc)
at_most_of P l a b x y e h (decided.forth u v numbers) = absurd (cc)
at_most_of P l a b x y e h (decided.back u v numbers) = absurd (cc)

same_sides : (u v a b : Term) → lit.Same u v ≡ lit.Same a b → (u ≡ a) × (v ≡ b)
same_sides u v a b e = (cc, cc)

same_of : (P : Term → Term → Type 0) (l : Literal) (a b x y : Term) → l ≡ lit.Same a b → P a b → P b a → IsOrderOf l x y → P x y
same_of P l a b x y e h k (decided.at_most u v numbers) = absurd (cc)
same_of P l a b x y e h k (decided.forth u v numbers) = let (p, q) = same_sides u v a b e in subst (λ z. P z v) (sym p) (subst (λ z. P a z) (sym q) h)
same_of P l a b x y e h k (decided.back u v numbers) = let (p, q) = same_sides u v a b e in subst (λ z. P z u) (sym q) (subst (λ z. P b z) (sym p) k)

apart_of : (P : Term → Term → Type 0) (l : Literal) (a b x y : Term) → l ≡ lit.Apart a b → IsOrderOf l x y → P x y
apart_of P l a b x y e (decided.at_most u v numbers) = absurd (cc)
apart_of P l a b x y e (decided.forth u v numbers) = absurd (cc)
apart_of P l a b x y e (decided.back u v numbers) = absurd (cc)

pub same_orders : (c : Condition) (n : ℕ) (a b : Term) → AreNumbers a b → ComparedIn c n a b → (x y : Term) → IsOrderOf (lit.Same a b) x y → OrderIn c n x y
same_orders c n a b numbers h x y is =
    same_of (OrderIn c n) (lit.Same a b) a b x y refl (of_comparison a b a b numbers h at_most) (of_comparison a b b a numbers h at_least) is

pub apart_orders : (c : Condition) (n : ℕ) (a b : Term) → (x y : Term) → IsOrderOf (lit.Apart a b) x y → OrderIn c n x y
apart_orders c n a b x y is = apart_of (OrderIn c n) (lit.Apart a b) a b x y refl is

pub below_orders : (c : Condition) (n : ℕ) (a b : Term) → AreNumbers a b → ComparedIn c n a b → (x y : Term) → IsOrderOf (lit.AtMost (plus_one a) b) x y → OrderIn c n x y
below_orders c n a b numbers h x y is =
    at_most_of (OrderIn c n) (lit.AtMost (plus_one a) b) (plus_one a) b x y refl (of_comparison a b (plus_one a) b numbers h below) is

pub above_orders : (c : Condition) (n : ℕ) (a b : Term) → AreNumbers a b → ComparedIn c n a b → (x y : Term) → IsOrderOf (lit.AtMost (plus_one b) a) x y → OrderIn c n x y
above_orders c n a b numbers h x y is =
    at_most_of (OrderIn c n) (lit.AtMost (plus_one b) a) (plus_one b) a x y refl (of_comparison a b (plus_one b) a numbers h above) is

pub result_orders : (c : Condition) (n : ℕ) (l : Literal) (f g : Application) → slice_get (literals_of c) n ≡ Some l → AppliedIn (l ∷ []) f → AppliedIn (literals_of c) g → f.operator ≡ g.operator → (x y : Term) → IsOrderOf (lit.Same f.result g.result) x y → OrderIn c n x y
result_orders c n l f g at fs gs same x y is =
    same_of (OrderIn c n) (lit.Same f.result g.result) f.result g.result x y refl (of_results l f g at fs gs same) (of_results_turned l f g at fs gs same) is
