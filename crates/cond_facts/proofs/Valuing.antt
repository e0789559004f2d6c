-- Numbers of reference symbols at which pairs are equal or differ.
use Rattle.std.specs.Prelude.{◌≡◌, ◌≢◌, ◌⊎◌, ℕ, ◌+◌, ◌==◌, Bool, true, false, not, if◌then◌else◌, List, [], ◌∷◌, All}
use Rattle.std.proofs.Common.{refl, ap, sym, subst, ◌∙◌, inl, inr}
use Rattle.std.proofs.lemmas.List.Elements.{All-nil, All-cons, All-head, All-tail}
use Rattle.terms.specs.SamenessLaws.{nat_same}
use Rattle.cond_facts.specs.declared.reference_pairs.Reference.{Reference}
use Rattle.cond_facts.specs.declared.reference_pairs.Reference.TheVariants.{Symbol, Number}
use Rattle.cond_facts.specs.declared.reference_pairs.Pair.{Pair}
use Rattle.cond_facts.specs.ReferencePairs.{same_reference, has, victim, victim_of, put_for, put_in_pair, replaced, changes, numbers_differ, other_numbers, value_of, AreEqualAt, DifferAt}
use Rattle.proof_checker.specs.Valuations.{reference_in as number_in}
use Rattle.cond_facts.specs.ReferenceValues.{AreMet, other_of, with_number, with_equality}
use Rattle.cond_facts.proofs.ReferenceTerms.{same_is, same_itself, not_same, has_side, has_no_side}

negated : (b : Bool) → not b ≡ false → b ≡ true
negated true h = refl
negated false h = absurd (cc)

-- of two references that aren't the same or two numbers, the victim is a symbol
symbol_of : (x y : Reference) → x ≢ y → numbers_differ x y ≡ false → (n : ℕ) × (victim_of x y ≡ Symbol n)
symbol_of (Symbol m) y other h = (m, refl)
symbol_of (Number m) (Symbol n) other h = (n, refl)
symbol_of (Number m) (Number n) other h =
    absurd (other (ap (λ (k : ℕ). Number k) (nat_same m n (negated (m == n) h))))

-- the victim is one side, and the other is the other
abbrev pub AreSides : Reference → Reference → Reference → Reference → Type 0
AreSides a b v o = ((v ≡ a) × (o ≡ b)) ⊎ ((v ≡ b) × (o ≡ a))

are_sides : (a b : Reference) → AreSides a b (victim_of a b) (other_of a b)
are_sides (Symbol m) b = inl (refl, refl)
are_sides (Number m) b = inr (refl, refl)

put_there : (from to s : Reference) → s ≡ from → put_for from to s ≡ to
put_there from to s e = ap (λ (b : Bool). if b then to else s) (subst (λ z. same_reference s z ≡ true) e (same_itself s))

-- where it is put, nothing is left
put_leaves_by : (from to s : Reference) → to ≢ from → (b : Bool) → same_reference s from ≡ b → (if b then to else s) ≢ from
put_leaves_by from to s other true h = other
put_leaves_by from to s other false h = not_same s from h

put_leaves : (from to s : Reference) → to ≢ from → put_for from to s ≢ from
put_leaves from to s other = put_leaves_by from to s other (same_reference s from) refl

-- the sides are one, or neither is the victim
abbrev pub IsFree : Reference → Pair → Type 0
IsFree v p = (p.left ≡ p.right) ⊎ ((p.left ≢ v) × (p.right ≢ v))

free_left : (a b v : Reference) (place : ℕ) (p : Pair) → a ≢ b → v ≡ a → IsFree v (put_in_pair a b place p)
free_left a b v place p other e =
    inr (subst (λ z. (put_for a b p.left ≢ z) × (put_for a b p.right ≢ z)) (sym e) (put_leaves a b p.left (λ q. other (sym q)), put_leaves a b p.right (λ q. other (sym q))))

free_back : (a b v : Reference) (place : ℕ) (p : Pair) → a ≢ b → v ≡ b → IsFree v (put_in_pair b a place p)
free_back a b v place p other e =
    inr (subst (λ z. (put_for b a p.left ≢ z) × (put_for b a p.right ≢ z)) (sym e) (put_leaves b a p.left other, put_leaves b a p.right other))

put_stays_by : (from to s : Reference) → s ≡ to → (b : Bool) → (if b then to else s) ≡ to
put_stays_by from to s e true = refl
put_stays_by from to s e false = e

put_stays : (from to s : Reference) → s ≡ to → put_for from to s ≡ to
put_stays from to s e = put_stays_by from to s e (same_reference s from)

-- a pair of both sides has one reference then
free_both : (a b v : Reference) (place : ℕ) (p : Pair) → a ≢ b → (p.left ≡ a) ⊎ (p.right ≡ a) → (p.left ≡ b) ⊎ (p.right ≡ b) → IsFree v (put_in_pair a b place p)
free_both a b v place p other (inl e) (inl f) = absurd (other (sym e ∙ f))
free_both a b v place p other (inl e) (inr f) = inl (put_there a b p.left e ∙ sym (put_stays a b p.right f))
free_both a b v place p other (inr e) (inl f) = inl (put_stays a b p.left f ∙ sym (put_there a b p.right e))
free_both a b v place p other (inr e) (inr f) = absurd (other (sym e ∙ f))

free_by : (e : Pair) (v o : Reference) (place : ℕ) (p : Pair) → e.left ≢ e.right → AreSides e.left e.right v o → has p v ≡ true → (b : Bool) → has p e.left ≡ b → IsFree v (if b then put_in_pair e.left e.right place p else put_in_pair e.right e.left place p)
free_by e v o place p other (inl sides) there true h = free_left e.left e.right v place p other sides.0
free_by e v o place p other (inl sides) there false h =
    let (j, k) = has_no_side p e.left h in
    elim (has_side p v there) [
      | inl q ↦ absurd (j (q ∙ sides.0))
      | inr q ↦ absurd (k (q ∙ sides.0))
    ]
free_by e v o place p other (inr sides) there true h =
    free_both e.left e.right v place p other (has_side p e.left h) (has_side p e.right (subst (λ z. has p z ≡ true) sides.0 there))
free_by e v o place p other (inr sides) there false h = free_back e.left e.right v place p other sides.0

-- the values with the victim's changed
abbrev pub moved : (ℕ → ℕ) → ℕ → ℕ → ℕ → ℕ
moved f n k m = if m == n then k else f m

moved_is : (f : ℕ → ℕ) (n k : ℕ) (y : Reference) → value_of (moved f n k) y ≡ (if same_reference y (Symbol n) then k else value_of f y)
moved_is f n k (Symbol m) = refl
moved_is f n k (Number m) = refl

moved_by : (f : ℕ → ℕ) (k : ℕ) (y v : Reference) → y ≢ v → (b : Bool) → same_reference y v ≡ b → (if b then k else value_of f y) ≡ value_of f y
moved_by f k y v other true h = absurd (other (same_is y v h))
moved_by f k y v other false h = refl

-- other references keep their numbers
moved_other : (f : ℕ → ℕ) (n k : ℕ) (y : Reference) → y ≢ Symbol n → value_of (moved f n k) y ≡ value_of f y
moved_other f n k y other = moved_is f n k y ∙ moved_by f k y (Symbol n) other (same_reference y (Symbol n)) refl

moved_there : (f : ℕ → ℕ) (n k : ℕ) → value_of (moved f n k) (Symbol n) ≡ k
moved_there f n k = moved_is f n k (Symbol n) ∙ ap (λ (b : Bool). if b then k else f n) (same_itself (Symbol n))

put_valued_by : (g : ℕ → ℕ) (from to s : Reference) → value_of g from ≡ value_of g to → (b : Bool) → same_reference s from ≡ b → value_of g (if b then to else s) ≡ value_of g s
put_valued_by g from to s e true h = sym e ∙ ap (value_of g) (sym (same_is s from h))
put_valued_by g from to s e false h = refl

put_valued : (g : ℕ → ℕ) (from to s : Reference) → value_of g from ≡ value_of g to → value_of g (put_for from to s) ≡ value_of g s
put_valued g from to s e = put_valued_by g from to s e (same_reference s from) refl

-- what an equality put into a pair makes has the pair's numbers where the equality holds
abbrev pub SameValues : (ℕ → ℕ) → Pair → Pair → Type 0
SameValues g p q = (value_of g q.left ≡ value_of g p.left) × (value_of g q.right ≡ value_of g p.right)

replaced_valued_by : (g : ℕ → ℕ) (e p : Pair) (place : ℕ) → AreEqualAt g e → (b : Bool) → SameValues g p (if b then put_in_pair e.left e.right place p else put_in_pair e.right e.left place p)
replaced_valued_by g e p place same true =
    (put_valued g e.left e.right p.left same, put_valued g e.left e.right p.right same)
replaced_valued_by g e p place same false =
    (put_valued g e.right e.left p.left (sym same), put_valued g e.right e.left p.right (sym same))

replaced_valued : (g : ℕ → ℕ) (e p : Pair) (place : ℕ) → AreEqualAt g e → SameValues g p (replaced e place p)
replaced_valued g e p place same = replaced_valued_by g e p place same (has p e.left)

-- a free pair's comparison stays where the victim's number changes
module _ (f : ℕ → ℕ) (n k : ℕ) where
  free_equal : (p q : Pair) → SameValues (moved f n k) p q → IsFree (Symbol n) q → AreEqualAt f q → AreEqualAt (moved f n k) p
  free_equal p q (l, r) (inl e) h = sym l ∙ ap (value_of (moved f n k)) e ∙ r
  free_equal p q (l, r) (inr (i, j)) h =
      sym l ∙ moved_other f n k q.left i ∙ h ∙ sym (moved_other f n k q.right j) ∙ r

  free_differ : (p q : Pair) → SameValues (moved f n k) p q → IsFree (Symbol n) q → DifferAt f q → DifferAt (moved f n k) p
  free_differ p q (l, r) (inl e) h = absurd (h (ap (value_of f) e))
  free_differ p q (l, r) (inr (i, j)) h =
      λ e. h (sym (moved_other f n k q.left i) ∙ l ∙ e ∙ sym r ∙ moved_other f n k q.right j)

module _ (e : Pair) (f : ℕ → ℕ) (n : ℕ) (is : victim e ≡ Symbol n) (other : e.left ≢ e.right) where
  abbrev o : Reference
  o = other_of e.left e.right

  abbrev g : ℕ → ℕ
  g = moved f n (value_of f o)

  o_is_other : o ≢ Symbol n
  o_is_other = λ q. elim (are_sides e.left e.right) [
    | inl s ↦ other (sym s.0 ∙ is ∙ sym q ∙ s.1)
    | inr s ↦ other (sym s.1 ∙ q ∙ sym is ∙ s.0)
  ]

  one_number : value_of g (Symbol n) ≡ value_of g o
  one_number = moved_there f n (value_of f o) ∙ sym (moved_other f n (value_of f o) o o_is_other)

  pub equality_holds : AreEqualAt g e
  equality_holds = elim (are_sides e.left e.right) [
    | inl s ↦ ap (value_of g) (sym s.0 ∙ is) ∙ one_number ∙ ap (value_of g) s.1
    | inr s ↦ ap (value_of g) (sym s.1) ∙ sym one_number ∙ ap (value_of g) (sym is ∙ s.0)
  ]

  free_now : (p : Pair) (place : ℕ) → has p (victim e) ≡ true → IsFree (Symbol n) (replaced e place p)
  free_now p place h =
      subst (λ v. IsFree v (replaced e place p)) is (free_by e (victim e) o place p other (are_sides e.left e.right) h (has p e.left) refl)

  free_before : (p : Pair) → has p (victim e) ≡ false → IsFree (Symbol n) p
  free_before p h = subst (λ v. IsFree v p) is (inr (has_no_side p (victim e) h))

  -- a comparison that holds where the equality is put in holds before, with the other number
  module _ (Is Was : Pair → Type 0) (carry : (p q : Pair) → SameValues g p q → IsFree (Symbol n) q → Is q → Was p) where
    carried_step : (p : Pair) (ps : List Pair) (next : ℕ) → ((m : ℕ) → All Is (changes e m ps) → All Was ps) → (b : Bool) → has p (victim e) ≡ b → All Is (if b then replaced e next p ∷ changes e (next + 1) ps else p ∷ changes e next ps) → All Was (p ∷ ps)
    carried_step p ps next more true h all =
        All-cons Was p ps (carry p (replaced e next p) (replaced_valued g e p next equality_holds) (free_now p next h) (All-head Is (replaced e next p) (changes e (next + 1) ps) all)) (more (next + 1) (All-tail Is (replaced e next p) (changes e (next + 1) ps) all))
    carried_step p ps next more false h all =
        All-cons Was p ps (carry p p (refl, refl) (free_before p h) (All-head Is p (changes e next ps) all)) (more next (All-tail Is p (changes e next ps) all))

    carried : (ps : List Pair) (next : ℕ) → All Is (changes e next ps) → All Was ps
    carried [] next all = All-nil Was
    carried (p ∷ ps) next all = carried_step p ps next (carried ps) (has p (victim e)) refl all

  equal_before : (ps : List Pair) (next : ℕ) → All (AreEqualAt f) (changes e next ps) → All (AreEqualAt g) ps
  equal_before = carried (AreEqualAt f) (AreEqualAt g) (free_equal f n (value_of f o))

  differ_before : (ps : List Pair) (next : ℕ) → All (DifferAt f) (changes e next ps) → All (DifferAt g) ps
  differ_before = carried (DifferAt f) (DifferAt g) (free_differ f n (value_of f o))

-- the victim's number is changed
equality_moves : (e : Pair) (rs : List (ℕ × ℕ)) (n : ℕ) → victim e ≡ Symbol n → number_in (with_equality e rs) ≡ moved (number_in rs) n (value_of (number_in rs) (other_of e.left e.right))
equality_moves e rs n is =
    ap (λ v. number_in (with_number v (value_of (number_in rs) (other_of e.left e.right)) rs)) is

-- where the changed pairs are met, the pairs are
pub changed_met : (e : Pair) (ps qs : List Pair) (next last : ℕ) (rs : List (ℕ × ℕ)) → same_reference e.left e.right ≡ false → other_numbers e ≡ false → AreMet (number_in rs) (changes e next ps) (changes e last qs) → AreMet (number_in (with_equality e rs)) (e ∷ ps) qs
changed_met e ps qs next last rs apart numbers h =
    let other = not_same e.left e.right apart in
    let (n, is) = symbol_of e.left e.right other numbers in
    let f = number_in rs in
    let new = moved f n (value_of f (other_of e.left e.right)) in
    subst (λ g. AreMet g (e ∷ ps) qs) (sym (equality_moves e rs n is)) (record {
      equal = All-cons (AreEqualAt new) e ps (equality_holds e f n is other) (equal_before e f n is other ps next h.equal);
      different = differ_before e f n is other qs last h.different;
    })

pub more_met : (f : ℕ → ℕ) (e : Pair) (ps qs : List Pair) → same_reference e.left e.right ≡ true → AreMet f ps qs → AreMet f (e ∷ ps) qs
more_met f e ps qs same h =
    record {
      equal = All-cons (AreEqualAt f) e ps (ap (value_of f) (same_is e.left e.right same)) h.equal;
      different = h.different;
    }

-- where there are no equalities, only the others count
pub different_met : (f : ℕ → ℕ) (qs : List Pair) → All (DifferAt f) qs → AreMet f [] qs
different_met f qs h = record { equal = All-nil (AreEqualAt f); different = h }
