-- Laws of the literals that splits and replacements add.
use Rattle.std.specs.Prelude.{◌≡◌, ℕ, Bool, true, false, not, ◌&&◌, ℤ, pos, ◌⊎◌, List, Option, Some, None, slice_get}
use Rattle.std.proofs.Common.{refl, ap, sym, subst, ◌∙◌, inl, inr, rules}
use Rattle.terms.specs.declared.Term.{Term, Term-F, Add, Lit, map-Term, out-Term, fold_out-Term, the_lemmas}
use Rattle.terms.specs.declared.Literal.{Literal}
use Rattle.terms.specs.declared.Literal.TheVariants as lit
use Rattle.terms.specs.Sorts.{of_numbers, number_step}
use Rattle.proof_checker.specs.declared.condition.Condition.{Condition}
use Rattle.proof_checker.specs.declared.view.View.{View}
use Rattle.proof_checker.specs.Conditions.{plain, plain_form, plain_literal, plus_one}
use Rattle.proof_checker.specs.Derivations.{ArePair, AreNumbers, AreReferences, Assumed, Splits, SplitsApart, flag, same_reference, other_reference, same_number, order, apart}
use Rattle.proof_checker.specs.Additions.{Finds, IsOnly, IsOtherSide, IsPutInto, IsReplacement, NoneHas}
use Rattle.proof_checker.proofs.Sides.{sum_parts}

-- a property carried along an equation, and one for another that is as good
pub found_at : (P : Literal → Literal → Type 0) (l k : Literal) (r : Option View) → l ≡ k → Finds (P l) r → Finds (P k) r
found_at P l k r e h = subst (λ z. Finds (P z) r) e h

found_as : (P Q : Literal → Type 0) (r : Option View) → ((k : Literal) → P k → Q k) → ((k : Literal) → Q k → P k) → Finds P r → Finds Q r
found_as P Q None there back h = λ k q. h k (back k q)
found_as P Q (Some v) there back h = λ k. (λ q. (h k).0 (back k q), λ e. there k ((h k).1 e))

-- a split with one other side, and one with none
pub only_side : (c : Condition) (fs : List Literal) (l side m : Literal) → Splits c fs l side → ((k : Literal) → Splits c fs l k → k ≡ side) → m ≡ plain_literal side → IsOnly (IsOtherSide c fs l) m
only_side c fs l side m splits unique e k =
    (λ h. h.plain_is ∙ ap plain_literal (unique h.side h.splits) ∙ sym e, λ is. record { side = side; splits = splits; plain_is = is ∙ e })

pub no_side : (c : Condition) (fs : List Literal) (l : Literal) → ((k : Literal) → Splits c fs l k → ⊥) → NoneHas (IsOtherSide c fs l)
no_side c fs l none k h = none h.side h.splits

flag_side : (c : Condition) (fs : List Literal) (l k : Literal) (n : ℕ) (held : Bool) → l ≡ lit.Flag n held → Splits c fs l k → k ≡ lit.Flag n (not held)
flag_side c fs _ _ n held e (flag i b) = cc
flag_side c fs _ _ n held e (same_reference x y are) = absurd (cc)
flag_side c fs _ _ n held e (other_reference x y are) = absurd (cc)
flag_side c fs _ _ n held e (same_number x y are pair) = absurd (cc)
flag_side c fs _ _ n held e (order x y are pair none) = absurd (cc)
flag_side c fs _ _ n held e (apart x y are there) = absurd (cc)

-- two terms on whose equality a split may be
abbrev pub MayBeSame : Condition → Term → Term → Type 0
MayBeSame c a b = AreReferences a b ⊎ (AreNumbers a b × ArePair c a b)

moved : (P : Term → Term → Type 0) (x y a b : Term) → x ≡ a → y ≡ b → P x y → P a b
moved P x y a b p q h = subst (λ z. P a z) q (subst (λ z. P z y) p h)

same_side : (c : Condition) (fs : List Literal) (l k : Literal) (a b : Term) → l ≡ lit.Same a b → Splits c fs l k → MayBeSame c a b × (k ≡ lit.Apart a b)
same_side c fs _ _ a b e (flag n held) = absurd (cc)
same_side c fs _ _ a b e (same_reference x y are) =
    let p : x ≡ a = cc in
    let q : y ≡ b = cc in
    (inl (moved AreReferences x y a b p q are), cc)
same_side c fs _ _ a b e (other_reference x y are) = absurd (cc)
same_side c fs _ _ a b e (same_number x y are pair) =
    let p : x ≡ a = cc in
    let q : y ≡ b = cc in
    (inr (moved AreNumbers x y a b p q are, moved (ArePair c) x y a b p q pair), cc)
same_side c fs _ _ a b e (order x y are pair none) = absurd (cc)
same_side c fs _ _ a b e (apart x y are there) = absurd (cc)

other_side : (c : Condition) (fs : List Literal) (l k : Literal) (a b : Term) → l ≡ lit.Apart a b → Splits c fs l k → AreReferences a b × (k ≡ lit.Same a b)
other_side c fs _ _ a b e (flag n held) = absurd (cc)
other_side c fs _ _ a b e (same_reference x y are) = absurd (cc)
other_side c fs _ _ a b e (other_reference x y are) =
    let p : x ≡ a = cc in
    let q : y ≡ b = cc in
    (moved AreReferences x y a b p q are, cc)
other_side c fs _ _ a b e (same_number x y are pair) = absurd (cc)
other_side c fs _ _ a b e (order x y are pair none) = absurd (cc)
other_side c fs _ _ a b e (apart x y are there) = absurd (cc)

-- the two ways in which a split may be on an order
record IsOrder (c : Condition) (fs : List Literal) (a b : Term) (k : Literal) : Type 0 where
  are : AreNumbers a b
  pair : ArePair c a b
  none : (x : Term) → SplitsApart fs a x b → ⊥
  is : k ≡ lit.AtMost (plus_one b) a

record IsSide (fs : List Literal) (a b : Term) (k : Literal) : Type 0 where
  first : Term
  are : AreNumbers first b
  split : SplitsApart fs a first b
  is : k ≡ lit.AtMost (plus_one b) first

order_side : (c : Condition) (fs : List Literal) (l k : Literal) (a b : Term) → l ≡ lit.AtMost a b → Splits c fs l k → IsOrder c fs a b k ⊎ IsSide fs a b k
order_side c fs _ _ a b e (flag n held) = absurd (cc)
order_side c fs _ _ a b e (same_reference x y are) = absurd (cc)
order_side c fs _ _ a b e (other_reference x y are) = absurd (cc)
order_side c fs _ _ a b e (same_number x y are pair) = absurd (cc)
order_side c fs _ _ a b e (order x y are pair none) =
    let p : x ≡ a = cc in
    let q : y ≡ b = cc in
    inl (record {
      are = moved AreNumbers x y a b p q are;
      pair = moved (ArePair c) x y a b p q pair;
      none = moved (λ t u. (z : Term) → SplitsApart fs t z u → ⊥) x y a b p q none;
      is = cc;
    })
order_side c fs _ _ a b e (apart x y are there) =
    let p : plus_one x ≡ a = cc in
    let q : y ≡ b = cc in
    inr (record {
      first = x;
      are = subst (λ z. AreNumbers x z) q are;
      split = (sym p, subst (λ z. Assumed fs (lit.Apart x z)) q there);
      is = cc;
    })

-- a sum with one unit
out-Add : (a b : Term) → out-Term (Add a b) ≡ Term-F.Add a b
out-Add a b = search (rules, the_lemmas)

out-Lit : (z : ℤ) → out-Term (Lit z) ≡ Term-F.Lit z
out-Lit z = search (rules, the_lemmas)

numbers_by : (t : Term) (x : Term-F Term) → out-Term t ≡ x → of_numbers t ≡ number_step (map-Term Term Bool of_numbers x)
numbers_by t x e =
    fold_out-Term Bool number_step t ∙ ap (λ y. number_step (map-Term Term Bool of_numbers y)) e

and_true : (b : Bool) → (b && true) ≡ b
and_true true = refl
and_true false = refl

numbers_plus_one : (x : Term) → of_numbers (plus_one x) ≡ of_numbers x
numbers_plus_one x =
    numbers_by (plus_one x) (Term-F.Add x (Lit (pos 1))) (out-Add x (Lit (pos 1))) ∙ ap (λ b. of_numbers x && b) (numbers_by (Lit (pos 1)) (Term-F.Lit (pos 1)) (out-Lit (pos 1))) ∙ and_true (of_numbers x)

pub plain_plus_one : (t : Term) → plain (plus_one t) ≡ plus_one t
plain_plus_one t = ap (plain_form (plus_one t)) (out-Add t (Lit (pos 1)))

pub one_unit : (x y : Term) → plus_one x ≡ plus_one y → x ≡ y
one_unit x y e = (sum_parts x (Lit (pos 1)) y (Lit (pos 1)) e).0

above_numbers : (fs : List Literal) (a b x : Term) → SplitsApart fs a x b → AreNumbers x b → AreNumbers a b
above_numbers fs a b x split are = record { left = ap of_numbers split.0 ∙ numbers_plus_one x ∙ are.left; right = are.right }

below_numbers : (fs : List Literal) (a b x : Term) → SplitsApart fs a x b → AreNumbers a b → AreNumbers x b
below_numbers fs a b x split are = record { left = sym (numbers_plus_one x) ∙ sym (ap of_numbers split.0) ∙ are.left; right = are.right }

-- a term that isn't assumed to be apart from another
pub not_split : (fs : List Literal) (a b x : Term) → a ≡ plus_one x → (Assumed fs (lit.Apart x b) → ⊥) → (y : Term) → SplitsApart fs a y b → ⊥
not_split fs a b x e none y split =
    none (subst (λ z. Assumed fs (lit.Apart z b)) (one_unit y x (sym split.0 ∙ e)) split.1)

-- the ways through a split on an order
pub no_numbers : (c : Condition) (fs : List Literal) (a b : Term) → (AreNumbers a b → ⊥) → NoneHas (IsOtherSide c fs (lit.AtMost a b))
no_numbers c fs a b none = no_side c fs (lit.AtMost a b) (λ k h. elim (order_side c fs (lit.AtMost a b) k a b refl h) [
  | inl o ↦ none o.are
  | inr s ↦ none (above_numbers fs a b s.first s.split s.are)
])

pub side_apart : (c : Condition) (fs : List Literal) (a b x : Term) (m : Literal) → AreNumbers a b → SplitsApart fs a x b → m ≡ plain_literal (lit.AtMost (plus_one b) x) → IsOnly (IsOtherSide c fs (lit.AtMost a b)) m
side_apart c fs a b x m are split e =
    only_side c fs (lit.AtMost a b) (lit.AtMost (plus_one b) x) m
    (subst (λ t. Splits c fs (lit.AtMost t b) (lit.AtMost (plus_one b) x)) (sym split.0) (apart x b (below_numbers fs a b x split are) split.1))
    (λ k h. elim (order_side c fs (lit.AtMost a b) k a b refl h) [
      | inl o ↦ absurd (o.none x split)
      | inr s ↦ s.is ∙ ap (λ t. lit.AtMost (plus_one b) t) (one_unit s.first x (sym s.split.0 ∙ split.0))
    ])
    e

pub side_order : (c : Condition) (fs : List Literal) (a b : Term) (m : Literal) → AreNumbers a b → ((x : Term) → SplitsApart fs a x b → ⊥) → ArePair c a b → m ≡ plain_literal (lit.AtMost (plus_one b) a) → IsOnly (IsOtherSide c fs (lit.AtMost a b)) m
side_order c fs a b m are none pair e =
    only_side c fs (lit.AtMost a b) (lit.AtMost (plus_one b) a) m (order a b are pair none)
    (λ k h. elim (order_side c fs (lit.AtMost a b) k a b refl h) [
      | inl o ↦ o.is
      | inr s ↦ absurd (none s.first s.split)
    ])
    e

pub no_pair : (c : Condition) (fs : List Literal) (a b : Term) → ((x : Term) → SplitsApart fs a x b → ⊥) → (ArePair c a b → ⊥) → NoneHas (IsOtherSide c fs (lit.AtMost a b))
no_pair c fs a b none no_ = no_side c fs (lit.AtMost a b) (λ k h. elim (order_side c fs (lit.AtMost a b) k a b refl h) [
  | inl o ↦ no_ o.pair
  | inr s ↦ none s.first s.split
])

-- the other literals
pub side_flag : (c : Condition) (fs : List Literal) (l : Literal) (n : ℕ) (held : Bool) (m : Literal) → l ≡ lit.Flag n held → m ≡ lit.Flag n (not held) → IsOnly (IsOtherSide c fs l) m
side_flag c fs l n held m is e =
    only_side c fs l (lit.Flag n (not held)) m (subst (λ z. Splits c fs z (lit.Flag n (not held))) (sym is) (flag n held)) (λ k h. flag_side c fs l k n held is h) e

pub side_same : (c : Condition) (fs : List Literal) (l : Literal) (a b : Term) (m : Literal) → l ≡ lit.Same a b → MayBeSame c a b → m ≡ plain_literal (lit.Apart a b) → IsOnly (IsOtherSide c fs l) m
side_same c fs l a b m is may e =
    only_side c fs l (lit.Apart a b) m (subst (λ z. Splits c fs z (lit.Apart a b)) (sym is) (splits may)) (λ k h. (same_side c fs l k a b is h).1) e
  where
    splits : MayBeSame c a b → Splits c fs (lit.Same a b) (lit.Apart a b)
    splits (inl are) = same_reference a b are
    splits (inr h) = same_number a b h.0 h.1

pub no_same : (c : Condition) (fs : List Literal) (l : Literal) (a b : Term) → l ≡ lit.Same a b → (MayBeSame c a b → ⊥) → NoneHas (IsOtherSide c fs l)
no_same c fs l a b is none = no_side c fs l (λ k h. none (same_side c fs l k a b is h).0)

pub side_references : (c : Condition) (fs : List Literal) (l : Literal) (a b : Term) (m : Literal) → l ≡ lit.Apart a b → AreReferences a b → m ≡ plain_literal (lit.Same a b) → IsOnly (IsOtherSide c fs l) m
side_references c fs l a b m is are e =
    only_side c fs l (lit.Same a b) m (subst (λ z. Splits c fs z (lit.Same a b)) (sym is) (other_reference a b are)) (λ k h. (other_side c fs l k a b is h).1) e

pub no_references : (c : Condition) (fs : List Literal) (l : Literal) (a b : Term) → l ≡ lit.Apart a b → (AreReferences a b → ⊥) → NoneHas (IsOtherSide c fs l)
no_references c fs l a b is none = no_side c fs l (λ k h. none (other_side c fs l k a b is h).0)

-- the replacement by two assumptions
one_literal : (l k : Literal) → ◌≡◌ {A = Option Literal} (Some l) (Some k) → l ≡ k
one_literal l k e = cc

the_put : (fs : List Literal) (i j : ℕ) (equality into k : Literal) → slice_get fs i ≡ Some equality → slice_get fs j ≡ Some into → IsReplacement fs i j k → IsPutInto equality into k
the_put fs i j equality into k at_i at_j h =
    let p : h.equality ≡ equality = one_literal h.equality equality (sym h.at_first ∙ at_i) in
    let q : h.into ≡ into = one_literal h.into into (sym h.at_second ∙ at_j) in
    subst (λ z. IsPutInto equality z k) q (subst (λ z. IsPutInto z h.into k) p h.put)

pub found_replacement : (fs : List Literal) (i j : ℕ) (equality into : Literal) (r : Option View) → slice_get fs i ≡ Some equality → slice_get fs j ≡ Some into → Finds (IsPutInto equality into) r → Finds (IsReplacement fs i j) r
found_replacement fs i j equality into r at_i at_j =
    found_as (IsPutInto equality into) (IsReplacement fs i j) r
    (λ k h. record { equality = equality; into = into; at_first = at_i; at_second = at_j; put = h })
    (λ k h. the_put fs i j equality into k at_i at_j h)
