-- What two applications ask for.
use Rattle.std.specs.Prelude.{◌≡◌, ℕ, zero, suc, ◌+◌, ◌-◌, ◌<◌, ◌≤◌, Bool, IsTrue, ℤ, pos, ◌+ℤ◌, ◌≤ℤ◌, ◌⊎◌, List, [], ◌∷◌, ◌++◌, map, take, length, get_or, Contains, Option, Some, slice_get}
use Rattle.std.proofs.Common.{refl, ap, sym, subst, ◌∙◌, arith, inl, inr}
use Rattle.std.proofs.Math.Seq.{take-suc}
use Rattle.std.proofs.lemmas.Int.{ints}
use Rattle.std.proofs.lemmas.List.{take_all, length-map}
use Rattle.std.proofs.lemmas.Option.{slice_get_within, slice_get_read}
use Rattle.lin_rows.specs.declared.Point.{Point}
use Rattle.terms.specs.declared.Term.{Term, Term-F, out-Term, fold_out-Term, map-Term}
use Rattle.terms.specs.declared.Literal.{Literal}
use Rattle.terms.specs.declared.Literal.TheVariants as lit
use Rattle.terms.specs.Sorts.{of_numbers, number_step as sort_step}
use Rattle.terms.specs.Meanings.{Meaning, Number, Reference, meaning_at, AreApart}
use Rattle.proof_checker.specs.Conditions.{plain, plain_form}
use Rattle.proof_checker.specs.Derivations.{AreEqual, AreNumbers}
use Rattle.cond_plan.specs.declared.plan.Applied.{Applied}
use Rattle.cond_plan.specs.declared.asked.Asked.{Asked}
use Rattle.cond_plan.specs.declared.asked.Asked.TheVariants as asked
use Rattle.cond_plan.specs.PointValues.{valued_at, AreApartAt, AreEqualAt}
use Rattle.cond_plan.specs.Needs.{ArePairAt, AreOperandsSettled, AreCongruentAt, IsRepair}
use Rattle.cond_plan.specs.Known.{AreAssumedSame, AreAssumedApart, ArePlacesSettled, DoDifferAt, IsEqualPair, IsCongruentPairAt, AreCongruentFrom, IsAsked, repair_of}

-- ---- places of lists
pub at_place : {X : Type 0} (xs : List X) (k : ℕ) (x : X) → k < length xs → x ≡ get_or xs k x → slice_get xs k ≡ Some x
at_place xs k x lt is = slice_get_read xs (length xs) k x refl lt is

one_item : {X : Type 0} (x y : X) → ◌≡◌ {A = Option X} (Some x) (Some y) → x ≡ y
one_item x y e = cc

next_place : (j k : ℕ) → j < k + 1 → (j < k) ⊎ (j ≡ k)
next_place j k lt = grind arith

-- ---- operands that differ
not_apart : (unit : ℤ) (p q : Meaning) → pos 1 ≤ℤ unit → p ≡ q → AreApart unit p q → ⊥
not_apart unit (Number x) (Number y) one e (inl h) = let same : x ≡ y = cc in absurd (omega (arith, ints))
not_apart unit (Number x) (Number y) one e (inr h) = let same : x ≡ y = cc in absurd (omega (arith, ints))
not_apart unit (Number x) (Reference n) one e h = h e
not_apart unit (Reference n) (Number x) one e h = h e
not_apart unit (Reference m) (Reference n) one e h = h e

some_meaning : (x y : Meaning) → ◌≡◌ {A = Option Meaning} (Some x) (Some y) → x ≡ y
some_meaning x y e = cc

mapped_at : (f : Term → Meaning) (xs ys : List Term) (k : ℕ) (a b : Term) → slice_get xs k ≡ Some a → slice_get ys k ≡ Some b → map f xs ≡ map f ys → f a ≡ f b
mapped_at f [] ys k a b e h same = absurd (cc)
mapped_at f (x ∷ xs) [] k a b e h same = absurd (cc)
mapped_at f (x ∷ xs) (y ∷ ys) zero a b e h same =
    let left : x ≡ a = one_item x a e in
    let right : y ≡ b = one_item y b h in
    let both : f x ≡ f y = cc in
    sym (ap f left) ∙ both ∙ ap f right
mapped_at f (x ∷ xs) (y ∷ ys) (suc k) a b e h same = let rest : map f xs ≡ map f ys = cc in mapped_at f xs ys k a b e h rest

pub differ_at : (p : Point) (xs ys : List Term) (k : ℕ) (a b : Term) → pos 1 ≤ℤ p.q → slice_get xs k ≡ Some a → slice_get ys k ≡ Some b → AreApartAt p a b → DoDifferAt p xs ys
differ_at p xs ys k a b one e h apart references flags same =
    let m = valued_at p references flags in
    not_apart p.q (meaning_at m a) (meaning_at m b) one (mapped_at (meaning_at m) xs ys k a b e h same) (apart references flags)

-- one more place
pub apart_more : (fs : List Literal) (xs ys : List Term) (k : ℕ) (x y : Term) → slice_get xs k ≡ Some x → slice_get ys k ≡ Some y → ¬ (AreAssumedApart fs x y) → ((j : ℕ) → j < k → (a b : Term) → slice_get xs j ≡ Some a → slice_get ys j ≡ Some b → ¬ (AreAssumedApart fs a b)) → (j : ℕ) → j < k + 1 → (a b : Term) → slice_get xs j ≡ Some a → slice_get ys j ≡ Some b → ¬ (AreAssumedApart fs a b)
apart_more fs xs ys k x y e h none before j lt a b at_left at_right = elim (next_place j k lt) [
  | inl less ↦ before j less a b at_left at_right
  | inr here ↦
      let left : x ≡ a = one_item x a (sym e ∙ ap (slice_get xs) (sym here) ∙ at_left) in
      let right : y ≡ b = one_item y b (sym h ∙ ap (slice_get ys) (sym here) ∙ at_right) in
      λ there. none (subst (λ z. AreAssumedApart fs x z) (sym right) (subst (λ z. AreAssumedApart fs z b) (sym left) there))
]

-- ---- operands that are assumed to be equal
plain_of : (t : Term) (x : Term-F Term) → IsTrue (sort_step (map-Term Term Bool of_numbers x)) → plain_form t x ≡ t
plain_of t (Term-F.Sym n) h = refl
plain_of t (Term-F.Lit z) h = refl
plain_of t (Term-F.Add a b) h = refl
plain_of t (Term-F.Scale k a) h = refl
plain_of t (Term-F.App operator all) h = refl
plain_of t (Term-F.RefSym n) h = refl
plain_of t (Term-F.RefLit n) h = refl
plain_of t Term-F.Nil h = absurd (cc)

-- a number is plain
number_plain : (t : Term) → IsTrue (of_numbers t) → plain t ≡ t
number_plain t h = plain_of t (out-Term t) (sym (fold_out-Term Bool sort_step t) ∙ h)

same_plain : (a b : Term) → AreNumbers a b → lit.Same a b ≡ lit.Same (plain a) (plain b)
same_plain a b n = sym (ap (λ z. lit.Same z (plain b)) (number_plain a n.left) ∙ ap (λ z. lit.Same a z) (number_plain b n.right))

pub one_pair : (fs : List Literal) (a b : Term) → a ≡ b → IsEqualPair fs a b
one_pair fs a b e = inl (ap plain e)

pub same_pair : (fs : List Literal) (a b : Term) → AreNumbers a b → AreAssumedSame fs a b → IsEqualPair fs a b
same_pair fs a b n there = inr (inl (subst (Contains fs) (same_plain a b n) there))

pub turned_pair : (fs : List Literal) (a b : Term) → AreNumbers a b → AreAssumedSame fs b a → IsEqualPair fs a b
turned_pair fs a b n there =
    inr (inr (subst (Contains fs) (same_plain b a (record { left = n.right; right = n.left })) there))

equal_push : (fs : List Literal) (xs ys : List Term) (a b : Term) → AreEqual fs xs ys → IsEqualPair fs a b → AreEqual fs (xs ++ a ∷ []) (ys ++ b ∷ [])
equal_push fs [] [] a b h e = (e, tt)
equal_push fs [] (y ∷ ys) a b h e = absurd h
equal_push fs (x ∷ xs) [] a b h e = absurd h
equal_push fs (x ∷ xs) (y ∷ ys) a b h e = (h.0, equal_push fs xs ys a b h.1 e)

pub equal_more : (fs : List Literal) (xs ys : List Term) (k : ℕ) (a b : Term) → k < length xs → k < length ys → a ≡ get_or xs k a → b ≡ get_or ys k b → AreEqual fs (take k xs) (take k ys) → IsEqualPair fs a b → AreEqual fs (take (k + 1) xs) (take (k + 1) ys)
equal_more fs xs ys k a b lt less is is' h e =
    let next : k + 1 ≡ suc k = omega arith in
    let left : take (k + 1) xs ≡ take k xs ++ a ∷ [] = ap (λ (n : ℕ). take n xs) next ∙ take-suc xs k a lt ∙ ap (λ u. take k xs ++ u ∷ []) (sym is) in
    let right : take (k + 1) ys ≡ take k ys ++ b ∷ [] = ap (λ (n : ℕ). take n ys) next ∙ take-suc ys k b less ∙ ap (λ u. take k ys ++ u ∷ []) (sym is') in
    subst (λ zs. AreEqual fs zs (take (k + 1) ys)) (sym left) (subst (λ zs. AreEqual fs (take k xs ++ a ∷ []) zs) (sym right) (equal_push fs (take k xs) (take k ys) a b h e))

pub equal_all : (fs : List Literal) (xs ys : List Term) (k : ℕ) → length xs ≤ k → length xs ≡ length ys → AreEqual fs (take k xs) (take k ys) → AreEqual fs xs ys
equal_all fs xs ys k le lengths h =
    let long : length ys ≤ k = omega arith in
    subst (λ zs. AreEqual fs xs zs) (take_all k ys long) (subst (λ zs. AreEqual fs zs (take k ys)) (take_all k xs le) h)

-- ---- slices of the operands
pub settled_along : (p : Point) (facts : List Literal) (xs ys us vs : List Term) → us ≡ xs → vs ≡ ys → ArePlacesSettled p facts xs ys → ArePlacesSettled p facts us vs
settled_along p facts xs ys us vs e h s =
    subst (λ z. ArePlacesSettled p facts z vs) (sym e) (subst (λ z. ArePlacesSettled p facts xs z) (sym h) s)

pub differ_along : (p : Point) (xs ys us vs : List Term) → us ≡ xs → vs ≡ ys → DoDifferAt p us vs → DoDifferAt p xs ys
differ_along p xs ys us vs e h d = subst (λ z. DoDifferAt p z ys) e (subst (λ z. DoDifferAt p us z) h d)

-- ---- two applications
pub lengths_differ : (p : Point) (f g : Applied) → ¬ (length f.operands ≡ length g.operands) → IsCongruentPairAt p f g
lengths_differ p f g other references flags same =
    let h = meaning_at (valued_at p references flags) in
    absurd (other (sym (length-map f.operands h) ∙ ap length same ∙ length-map g.operands h))

pub results_equal : (p : Point) (f g : Applied) → AreEqualAt p f.result g.result → IsCongruentPairAt p f g
results_equal p f g h references flags same = h references flags

pub operands_differ : (p : Point) (f g : Applied) → DoDifferAt p f.operands g.operands → IsCongruentPairAt p f g
operands_differ p f g h references flags same = absurd (h references flags same)

-- ---- lists of applications
pub settled_at : (p : Point) (facts : List Literal) (fs : List Applied) (i j : ℕ) (f g : Applied) → AreOperandsSettled p facts fs → i < j → slice_get fs i ≡ Some f → slice_get fs j ≡ Some g → f.operator ≡ g.operator → ArePlacesSettled p facts f.operands g.operands
settled_at p facts fs i j f g all order e h operator k a b at_left at_right =
    all i j k a b (record {
      first = f;
      second = g;
      pair = record { order = order; at_first = e; at_second = h; operator = operator };
      at_first = at_left;
      at_second = at_right;
    })

pub asked_repair : (facts : List Literal) (fs : List Applied) (i j : ℕ) (f g : Applied) (a : Asked) → i < j → slice_get fs i ≡ Some f → slice_get fs j ≡ Some g → IsAsked facts f g a → IsRepair facts fs (repair_of i j a)
asked_repair facts fs i j f g asked.Results order e h is =
    (f, g, record { order = order; at_first = e; at_second = h; operator = is.0 }, is.1, is.2)
asked_repair facts fs i j f g (asked.Operand k) order e h is =
    let open_ = is.1 in (
      open_.left,
      open_.right,
      record {
        first = f;
        second = g;
        pair = record { order = order; at_first = e; at_second = h; operator = is.0 };
        at_first = open_.at_left;
        at_second = open_.at_right;
      },
      open_.open_,
      is.2 k open_.left open_.right open_.at_left open_.at_right,
    )

abbrev IsCongruentTo : Point → List Applied → ℕ → ℕ → Type 0
IsCongruentTo p fs i n = (f g : Applied) → ArePairAt fs i n f g → IsCongruentPairAt p f g

-- an application and the next one of those behind it
pub congruent_more : (p : Point) (fs : List Applied) (i j : ℕ) (f g : Applied) → slice_get fs i ≡ Some f → slice_get fs j ≡ Some g → (f.operator ≡ g.operator → IsCongruentPairAt p f g) → ((n : ℕ) → n < j → IsCongruentTo p fs i n) → (n : ℕ) → n < j + 1 → IsCongruentTo p fs i n
congruent_more p fs i j f g e h here before n lt f' g' pair = elim (next_place n j lt) [
  | inl less ↦ before n less f' g' pair
  | inr same ↦
      let left : f ≡ f' = one_item f f' (sym e ∙ pair.at_first) in
      let right : g ≡ g' = one_item g g' (sym h ∙ ap (slice_get fs) (sym same) ∙ pair.at_second) in
      subst (λ x. IsCongruentPairAt p f' x) right (subst (λ x. IsCongruentPairAt p x g) left (here (ap (λ x. x.operator) left ∙ pair.operator ∙ sym (ap (λ x. x.operator) right))))
]

pub congruent_all : (p : Point) (fs : List Applied) (i j : ℕ) → length fs ≤ j → ((n : ℕ) → n < j → IsCongruentTo p fs i n) → AreCongruentFrom p fs i
congruent_all p fs i j le before n f g pair =
    let within : n < length fs = slice_get_within fs n g pair.at_second in
    before n (omega arith) f g pair

pub from_more : (p : Point) (fs : List Applied) (i : ℕ) → AreCongruentFrom p fs i → ((n : ℕ) → n < i → AreCongruentFrom p fs n) → (n : ℕ) → n < i + 1 → AreCongruentFrom p fs n
from_more p fs i here before n lt = elim (next_place n i lt) [
  | inl less ↦ before n less
  | inr same ↦ subst (AreCongruentFrom p fs) (sym same) here
]

pub from_all : (p : Point) (fs : List Applied) (i : ℕ) → length fs ≤ i → ((n : ℕ) → n < i → AreCongruentFrom p fs n) → AreCongruentAt p fs
from_all p fs i le before n j f g pair =
    let within : n < length fs = slice_get_within fs n f pair.at_first in
    before n (omega arith) j f g pair
