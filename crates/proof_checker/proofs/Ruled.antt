-- Laws of the rules of derivations.
use Rattle.std.specs.Prelude.{◌≡◌, ℕ, ◌==◌, ◌⊎◌, Bool, true, IsTrue, List, ◌∷◌, Option, Some, None, slice_get}
use Rattle.std.proofs.Common.{refl, sym, subst, ◌∙◌, inl, inr, arith}
use Rattle.std.proofs.lemmas.Bool.Decides.{nat_tests}
use Rattle.terms.specs.declared.Term.{Term}
use Rattle.terms.specs.declared.Literal.TheVariants as lit
use Rattle.proof_checker.specs.Conditions.{plain}
use Rattle.terms.specs.declared.Literal.{Literal}
use Rattle.proof_checker.specs.declared.condition.Condition.{Condition}
use Rattle.proof_checker.specs.declared.derivation.Derivation.{Derivation, Derivation-F, out-Derivation}
use Rattle.proof_checker.specs.Derivations.{AreEqual, Assumed, IsOpposite, IsFalse, DerivesFrom, split, replace, congruent, clash, false_itself, combine}
use Rattle.proof_checker.specs.Chains.{Clashes, opposites, itself}

one_literal : (l k : Literal) → ◌≡◌ {A = Option Literal} (Some l) (Some k) → l ≡ k
one_literal l k e = cc

none_is : (fs : List Literal) (i : ℕ) (l : Literal) → slice_get fs i ≡ None → slice_get fs i ≡ Some l → ⊥
none_is fs i l e f = absurd (cc)

pub no_first : (fs : List Literal) (i j : ℕ) → slice_get fs i ≡ None → Clashes fs i j → ⊥
no_first fs i j e (opposites _ _ l k at_i at_j is) = none_is fs i l e at_i
no_first fs i j e (itself _ l at_i is) = none_is fs i l e at_i

pub no_second : (fs : List Literal) (i j : ℕ) → slice_get fs j ≡ None → Clashes fs i j → ⊥
no_second fs i j e (opposites _ _ l k at_i at_j is) = none_is fs j k e at_j
no_second fs i j e (itself _ l at_i is) = none_is fs j l e at_i

abbrev pub Clashing : Literal → Literal → Bool → Type 0
Clashing l k same = (IsOpposite l k ⊎ IsOpposite k l) ⊎ ((same ≡ true) × IsFalse l)

found_clash : (fs : List Literal) (i j : ℕ) (l k : Literal) (same : Bool) → slice_get fs i ≡ Some l → slice_get fs j ≡ Some k → (i ≡ j → same ≡ true) → Clashes fs i j → Clashing l k same
found_clash fs i j l k same e f test (opposites _ _ l' k' at_i at_j is) =
    let p : l' ≡ l = one_literal l' l (sym at_i ∙ e) in
    let q : k' ≡ k = one_literal k' k (sym at_j ∙ f) in
    inl (subst (λ z. IsOpposite l z ⊎ IsOpposite z l) q (subst (λ z. IsOpposite z k' ⊎ IsOpposite k' z) p is))
found_clash fs i j l k same e f test (itself _ l' at_i is) =
    let p : l' ≡ l = one_literal l' l (sym at_i ∙ e) in
    inr (test refl, subst IsFalse p is)

clash_found : (fs : List Literal) (i j : ℕ) (l k : Literal) (same : Bool) → slice_get fs i ≡ Some l → slice_get fs j ≡ Some k → (same ≡ true → i ≡ j) → Clashing l k same → Clashes fs i j
clash_found fs i j l k same e f test (inl is) = opposites i j l k e f is
clash_found fs i j l k same e f test (inr h) = subst (λ n. Clashes fs i n) (test h.0) (itself i l e h.1)

pub clashes_iff : (fs : List Literal) (i j : ℕ) (l k : Literal) (same r : Bool) → slice_get fs i ≡ Some l → slice_get fs j ≡ Some k → ((i ≡ j → same ≡ true) × (same ≡ true → i ≡ j)) → ((IsTrue r → Clashing l k same) × (Clashing l k same → IsTrue r)) → (IsTrue r → Clashes fs i j) × (Clashes fs i j → IsTrue r)
clashes_iff fs i j l k same r e f test both =
    (λ h. clash_found fs i j l k same e f test.1 (both.0 h), λ h. both.1 (found_clash fs i j l k same e f test.0 h))

-- what a clash derives
clash_from : (c : Condition) (fs : List Literal) (d : Derivation) (i j : ℕ) → out-Derivation d ≡ Derivation-F.Clash i j → DerivesFrom c fs d → Clashes fs i j
clash_from c _ _ i j e (split fs d held else_ l k is splits left right) = absurd (cc)
clash_from c _ _ i j e (replace fs d rest m n a b l k is at_i at_j replaced more) = absurd (cc)
clash_from c _ _ i j e (congruent fs d rest m n f g is at_i at_j operator equal more) = absurd (cc)
clash_from c _ _ i j e (clash fs d m n l k is at_m at_n opposite_) =
    let p : m ≡ i = cc in
    let q : n ≡ j = cc in
    subst (λ x. Clashes fs x j) p (subst (λ x. Clashes fs m x) q (opposites m n l k at_m at_n opposite_))
clash_from c _ _ i j e (false_itself fs d m l is at_m false_) =
    let p : m ≡ i = cc in
    let q : m ≡ j = cc in
    subst (λ x. Clashes fs x j) p (subst (λ x. Clashes fs m x) q (itself m l at_m false_))
clash_from c _ _ i j e (combine fs d steps rows is are combination) = absurd (cc)

from_clash : (c : Condition) (fs : List Literal) (d : Derivation) (i j : ℕ) → out-Derivation d ≡ Derivation-F.Clash i j → Clashes fs i j → DerivesFrom c fs d
from_clash c fs d _ _ e (opposites i j l k at_i at_j is) = clash fs d i j l k e at_i at_j is
from_clash c fs d _ _ e (itself i l at_i is) = false_itself fs d i l e at_i is

pub clash_derives : (c : Condition) (fs : List Literal) (d : Derivation) (i j : ℕ) → out-Derivation d ≡ Derivation-F.Clash i j → (DerivesFrom c fs d → Clashes fs i j) × (Clashes fs i j → DerivesFrom c fs d)
clash_derives c fs d i j e = (clash_from c fs d i j e, from_clash c fs d i j e)

pub same_places : (i j : ℕ) → (i ≡ j → (i == j) ≡ true) × ((i == j) ≡ true → i ≡ j)
same_places i j = (λ e. test i j e, λ h. place i j h)
  where
    test : (i j : ℕ) → i ≡ j → (i == j) ≡ true
    test i j e = grind (arith, nat_tests)

    place : (i j : ℕ) → (i == j) ≡ true → i ≡ j
    place i j h = grind (arith, nat_tests)

-- lists of equal operands, the first of which are known to be equal
pub equal_rest : (fs : List Literal) (xs ys : List Term) (x y : Term) (r s : List Term) (b : Bool) → xs ≡ x ∷ r → ys ≡ y ∷ s → (plain x ≡ plain y) ⊎ Assumed fs (lit.Same x y) → ((IsTrue b → AreEqual fs r s) × (AreEqual fs r s → IsTrue b)) → (IsTrue b → AreEqual fs xs ys) × (AreEqual fs xs ys → IsTrue b)
equal_rest fs xs ys x y r s b e f first rest = (
  λ h. subst (λ zs. AreEqual fs zs ys) (sym e) (subst (λ zs. AreEqual fs (x ∷ r) zs) (sym f) (first, rest.0 h)),
  λ h. rest.1 (subst (λ zs. AreEqual fs (x ∷ r) zs) f (subst (λ zs. AreEqual fs zs ys) e h)).1,
)
