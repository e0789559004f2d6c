-- A combination of rows that are numbered in one way is one of them numbered in another.
use Rattle.std.specs.Prelude.{◌≡◌, ℕ, zero, suc, ◌+◌, ◌-◌, ◌*◌, ◌<◌, nat_lt, if◌then◌else◌, Bool, true, false, ◌⊎◌, List, [], ◌∷◌, ◌++◌, length, map, get_or, slice_get, Option, Some, None}
use Rattle.std.proofs.Common.{refl, ap, sym, subst, ◌∙◌, inl, inr, arith}
use Rattle.std.proofs.lemmas.Bool.Decides.{nat_tests}
use Rattle.lin_rows.specs.declared.Row.{Row}
use Rattle.lin_rows.specs.declared.ComboStep.{ComboStep}
use Rattle.lin_rows.specs.Steps.{StepHolds, StepsHold, EndsFalse, IsCombination}
use Rattle.terms.specs.declared.Literal.{Literal}
use Rattle.proof_checker.specs.Rows.{AreAllRows}
use Rattle.proof_checker.specs.declared.Condition.{Condition}
use Rattle.proof_checker.specs.declared.Derivation.{Derivation, Derivation-F, out-Derivation}
use Rattle.proof_checker.specs.Derivations.{DerivesFrom, combine}
use Rattle.cond_facts.specs.FactRows.{present, places, new_number, renumbered, AreRead}
use Rattle.cond_facts.proofs.Gathering.{all_length, all_rows_there}

get_last : {X : Type 0} (xs : List X) (y z : X) (i : ℕ) → slice_get (xs ++ y ∷ []) i ≡ Some z → (slice_get xs i ≡ Some z) ⊎ ((i ≡ length xs) × (y ≡ z))
get_last [] y z zero e = inr (refl, cc)
get_last [] y z (suc i) e = absurd (cc)
get_last (x ∷ xs) y z zero e = inl e
get_last (x ∷ xs) y z (suc i) e = elim (get_last xs y z i e) [
  | inl f ↦ inl f
  | inr f ↦ inr (ap suc f.0, f.1)
]

get_front : {X : Type 0} (xs : List X) (y z : X) (i : ℕ) → slice_get xs i ≡ Some z → slice_get (xs ++ y ∷ []) i ≡ Some z
get_front [] y z i e = absurd (cc)
get_front (x ∷ xs) y z zero e = e
get_front (x ∷ xs) y z (suc i) e = get_front xs y z i e

get_end : {X : Type 0} (xs : List X) (y : X) → slice_get (xs ++ y ∷ []) (length xs) ≡ Some y
get_end [] y = refl
get_end (x ∷ xs) y = get_end xs y

length_more : {X : Type 0} (xs : List X) (y : X) → length (xs ++ y ∷ []) ≡ length xs + 1
length_more [] y = refl
length_more (x ∷ xs) y = let e = length_more xs y in omega (arith, e)

-- the number of a step
number_after : (numbers : List ℕ) (first k : ℕ) → new_number numbers first (length numbers + k) ≡ first + k
number_after numbers first k =
    let past : nat_lt (length numbers + k) (length numbers) ≡ false = grind (arith, nat_tests) in
    ap (λ (b : Bool). if b then get_or numbers (length numbers + k) 0 else length numbers + k - length numbers + first) past ∙ rest (length numbers) k first
  where
    rest : (n k first : ℕ) → n + k - n + first ≡ first + k
    rest n k first = omega arith

-- the number of a row
number_before : (numbers : List ℕ) (first n : ℕ) → n < length numbers → new_number numbers first n ≡ get_or numbers n 0
number_before numbers first n lt =
    let within : nat_lt n (length numbers) ≡ true = grind (arith, nat_tests) in
    ap (λ (b : Bool). if b then get_or numbers n 0 else n - length numbers + first) within

-- rows by the one numbering are there by the other
abbrev AreCarried : (ℕ → ℕ) → List (Option Row) → List (Option Row) → Type 0
AreCarried f lower upper = (n : ℕ) (r : Row) → slice_get lower n ≡ Some (Some r) → slice_get upper (f n) ≡ Some (Some r)

carried_more : (f : ℕ → ℕ) (lower upper : List (Option Row)) (x : Option Row) → f (length lower) ≡ length upper → AreCarried f lower upper → AreCarried f (lower ++ x ∷ []) (upper ++ x ∷ [])
carried_more f lower upper x at carried n r e = elim (get_last lower x (Some r) n e) [
  | inl there ↦ get_front upper x (Some r) (f n) (carried n r there)
  | inr last ↦ ap (λ m. slice_get (upper ++ x ∷ []) (f m)) last.0 ∙ ap (λ m. slice_get (upper ++ x ∷ []) m) at ∙ get_end upper x ∙ ap Some last.1
]

step_carried : (numbers : List ℕ) (first : ℕ) (lower upper : List (Option Row)) (s : ComboStep) → AreCarried (new_number numbers first) lower upper → StepHolds lower s → StepHolds upper (renumbered numbers first s)
step_carried numbers first lower upper s carried h = record {
  left = h.left;
  right = h.right;
  at_left = carried s.left h.left h.at_left;
  at_right = carried s.right h.right h.at_right;
  by_left = h.by_left;
  by_right = h.by_right;
  fits = h.fits;
  sum = h.sum;
}

steps_carried : (numbers : List ℕ) (first k : ℕ) (lower upper : List (Option Row)) (ss : List ComboStep) → length lower ≡ length numbers + k → length upper ≡ first + k → AreCarried (new_number numbers first) lower upper → StepsHold lower ss → StepsHold upper (map (renumbered numbers first) ss)
steps_carried numbers first k lower upper [] e f carried h = tt
steps_carried numbers first k lower upper (s ∷ ss) e f carried h =
    let at : new_number numbers first (length lower) ≡ length upper = ap (new_number numbers first) e ∙ number_after numbers first k ∙ sym f in
    (step_carried numbers first lower upper s carried h.0, steps_carried numbers first (k + 1) (lower ++ Some s.row ∷ []) (upper ++ Some s.row ∷ []) ss (length_more lower (Some s.row) ∙ more (length lower) (length numbers) k e) (length_more upper (Some s.row) ∙ more (length upper) first k f) (carried_more (new_number numbers first) lower upper (Some s.row) at carried) h.1)
  where
    more : (a b k : ℕ) → a ≡ b + k → a + 1 ≡ b + (k + 1)
    more a b k e = omega (arith, e)

map-more : {X Y : Type 0} (f : X → Y) (xs : List X) (y : X) → map f (xs ++ y ∷ []) ≡ map f xs ++ f y ∷ []
map-more f [] y = refl
map-more f (x ∷ xs) y = ap (λ zs. f x ∷ zs) (map-more f xs y)

ends_carried : (numbers : List ℕ) (first : ℕ) (ss : List ComboStep) → EndsFalse ss → EndsFalse (map (renumbered numbers first) ss)
ends_carried numbers first ss (front, last, is, false_) =
    (map (renumbered numbers first) front, renumbered numbers first last, ap (map (renumbered numbers first)) is ∙ map-more (renumbered numbers first) front last, false_)

-- a row that is there has the number of its place
placed : (m : ℕ) (all : List (Option Row)) (n : ℕ) (r : Row) → slice_get (map Some (present all)) n ≡ Some (Some r) → (j : ℕ) × (n < length (places m all)) × (get_or (places m all) n 0 ≡ m + j) × (slice_get all j ≡ Some (Some r))
placed m [] n r e = absurd (cc)
placed m (None ∷ all) n r e =
    let (j, lt, at, is) = placed (m + 1) all n r e in
    (suc j, lt, at ∙ next m j, is)
  where
    next : (m j : ℕ) → m + 1 + j ≡ m + suc j
    next m j = omega arith
placed m (Some s ∷ all) zero r e = (0, omega arith, none m, e)
  where
    none : (m : ℕ) → m ≡ m + 0
    none m = omega arith
placed m (Some s ∷ all) (suc n) r e =
    let (j, lt, at, is) = placed (m + 1) all n r e in
    (suc j, omega arith, at ∙ next m j, is)
  where
    next : (m j : ℕ) → m + 1 + j ≡ m + suc j
    next m j = omega arith

given_carried : (numbers : List ℕ) (first : ℕ) (all : List (Option Row)) → numbers ≡ places 0 all → AreCarried (new_number numbers first) (map Some (present all)) all
given_carried numbers first all is n r e =
    let (j, lt, at, there) = placed 0 all n r e in
    let lt' : n < length numbers = subst (λ z. n < length z) (sym is) lt in
    ap (slice_get all) (number_before numbers first n lt' ∙ ap (λ z. get_or z n 0) is ∙ at ∙ from_none j) ∙ there
  where
    from_none : (k : ℕ) → 0 + k ≡ k
    from_none k = omega arith

given_length : (m : ℕ) (all : List (Option Row)) → length (map Some (present all)) ≡ length (places m all) + 0
given_length m [] = refl
given_length m (Some r ∷ all) = let e = given_length (m + 1) all in omega (arith, e)
given_length m (None ∷ all) = given_length (m + 1) all

carried : (fs : List Literal) (rows : List Row) (numbers : List ℕ) (steps : List ComboStep) (first : ℕ) → first ≡ 2 * length fs → AreRead fs rows numbers → IsCombination (map Some rows) steps → (all : List (Option Row)) × AreAllRows fs all × IsCombination all (map (renumbered numbers first) steps)
carried fs rows numbers steps first e is h =
    let given = given_length 0 is.all ∙ ap (λ z. length z + 0) (sym is.numbers_are) in
    let upper : length is.all ≡ first + 0 = plus_none (length is.all) first (all_length fs is.all is.are ∙ sym e) in (
      is.all,
      all_rows_there fs is.all is.are,
      record {
        steps_hold = steps_carried numbers first 0 (map Some (present is.all)) is.all steps given upper (given_carried numbers first is.all is.numbers_are) (subst (λ z. StepsHold (map Some z) steps) is.rows_are h.steps_hold);
        ends_false = ends_carried numbers first steps h.ends_false;
      },
    )
  where
    plus_none : (a b : ℕ) → a ≡ b → a ≡ b + 0
    plus_none a b e = omega (arith, e)

-- so the steps, numbered anew, derive any condition
pub derives : (c : Condition) (fs : List Literal) (rows : List Row) (numbers same : List ℕ) (steps new : List ComboStep) (first : ℕ) (d : Derivation) → out-Derivation d ≡ Derivation-F.Combine new → same ≡ numbers → new ≡ map (renumbered same first) steps → AreRead fs rows numbers → IsCombination (map Some rows) steps → first ≡ 2 * length fs → DerivesFrom c fs d
derives c fs rows numbers same steps new first d is e f read h at =
    let (all, are, combination) = carried fs rows numbers steps first at read h in
    combine fs d new all is are (subst (IsCombination all) (sym (f ∙ ap (λ z. map (renumbered z first) steps) e)) combination)
