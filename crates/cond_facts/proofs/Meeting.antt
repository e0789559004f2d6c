-- Orders and equalities of numbers hold where their rows are met.
use Rattle.std.specs.Prelude.{◌≡◌, ℕ, Bool, true, false, ◌&&◌, IsTrue, ℤ, pos, negsuc, ◌+ℤ◌, ◌-ℤ◌, ◌*ℤ◌, ◌≤ℤ◌, List, [], ◌∷◌, All, Option, Some, None}
use Rattle.std.proofs.Common.{refl, ap, sym, subst, ◌∙◌, arith}
use Rattle.std.proofs.lemmas.Int.{ints}
use Rattle.std.proofs.lemmas.List.Elements.{All-nil, All-cons, All-head, All-tail}
use Rattle.lin_rows.specs.declared.Row.{Row}
use Rattle.lin_rows.specs.declared.Point.{Point}
use Rattle.lin_rows.specs.Terms.{value_at}
use Rattle.lin_rows.specs.TermLaws.{value-mixed}
use Rattle.lin_rows.specs.Rows.{Meets}
use Rattle.lin_rows.specs.Ring as ring
use Rattle.lin_solver.specs.WayBack.{IsMetAt, IsSolution}
use Rattle.terms.specs.declared.Term.{Term}
use Rattle.terms.specs.declared.Literal.{Literal}
use Rattle.terms.specs.declared.Literal.TheVariants as lit
use Rattle.terms.specs.Sorts.{of_numbers}
use Rattle.terms.specs.Forms.{form_of}
use Rattle.terms.specs.FormLaws.{has_form}
use Rattle.terms.specs.Meanings.{Valued, Meaning, Number, meaning_at, number_at, IsAtMost, Holds}
use Rattle.terms.specs.MeaningLaws.{number_meant}
use Rattle.proof_checker.specs.Rows.{IsRow}
use Rattle.cond_facts.specs.FactRows.{IsThereIf, AreThere, AreAllThere, present, AreRead}
use Rattle.cond_plan.specs.PointValues.{valued_at, of_order, IsMet}

less : (r x y fx fy : ℤ) → r ≡ fx -ℤ fy → x ≡ fx → y ≡ fy → r ≡ pos 1 *ℤ x +ℤ negsuc 0 *ℤ y
less r x y fx fy e f g = omega (arith, ints, e, f, g)

at_most : (v s t c d w x y : ℤ) → v ≡ pos 1 *ℤ s +ℤ negsuc 0 *ℤ t → w ≡ d -ℤ c → x ≡ s +ℤ c → y ≡ t +ℤ d → v ≤ℤ w → x ≤ℤ y
at_most v s t c d w x y e f g h le = omega (arith, ints, e, f, g, h, le)

-- the order of two numbers holds where its row is met
row_holds : (m : Valued) (a b : Term) (r : Row) → IsRow a b r → Meets m.unit m.numbers r → number_at m a ≤ℤ number_at m b
row_holds m a b r is met =
    let left = has_form m a in
    let right = has_form m b in
    let value = value-mixed (pos 1) (negsuc 0) m.numbers left.terms right.terms r.coefs (λ v. less _ _ _ ((form_of a).coefs v) ((form_of b).coefs v) (is.coefs v) (left.coefs v) (right.coefs v)) in
    let bound : r.bound *ℤ m.unit ≡ (form_of b).units *ℤ m.unit -ℤ (form_of a).units *ℤ m.unit =
    ap (λ z. z *ℤ m.unit) is.bound ∙ ring.-ℤ-*ℤ (form_of b).units (form_of a).units m.unit in
    at_most (value_at m.numbers r.coefs) (value_at m.numbers left.terms) (value_at m.numbers right.terms) ((form_of a).units *ℤ m.unit) ((form_of b).units *ℤ m.unit) (r.bound *ℤ m.unit) (number_at m a) (number_at m b) value bound left.number right.number met

abbrev IsMetIn : Valued → Row → Type 0
IsMetIn m r = Meets m.unit m.numbers r

-- so is one that is there
there_holds : (m : Valued) (t : Bool) (a b : Term) (r : Option Row) (rows : List (Option Row)) → t ≡ true → IsThereIf t a b r → All (IsMetIn m) (present (r ∷ rows)) → number_at m a ≤ℤ number_at m b
there_holds m true a b (Some r) rows e is met = row_holds m a b r is (All-head (IsMetIn m) r (present rows) met)
there_holds m true a b None rows e is met = absurd is
there_holds m false a b r rows e is met = absurd (cc)

-- the rows after the first
later_met : (m : Valued) (r : Option Row) (rows : List (Option Row)) → All (IsMetIn m) (present (r ∷ rows)) → All (IsMetIn m) (present rows)
later_met m (Some r) rows met = All-tail (IsMetIn m) r (present rows) met
later_met m None rows met = met

both : (a b : Bool) → IsTrue (a && b) → (a ≡ true) × (b ≡ true) × ((a && b) ≡ true)
both true true h = (refl, refl, refl)
both true false h = absurd (cc)
both false b h = absurd (cc)

numbers_at_most : (p q : Meaning) (x y : ℤ) → p ≡ Number x → q ≡ Number y → x ≤ℤ y → IsAtMost p q
numbers_at_most p q x y e f le = subst (λ z. IsAtMost z q) (sym e) (subst (λ z. IsAtMost (Number x) z) (sym f) le)

numbers_same : (p q : Meaning) (x y : ℤ) → p ≡ Number x → q ≡ Number y → x ≤ℤ y → y ≤ℤ x → p ≡ q
numbers_same p q x y e f le back = let same : x ≡ y = omega (arith, ints) in e ∙ ap (λ (z : ℤ). Number z) same ∙ sym f

-- an assumption whose rows are met holds
literal_holds : (m : Valued) (l : Literal) (r s : Option Row) (rows : List (Option Row)) → AreThere l r s → All (IsMetIn m) (present (r ∷ s ∷ rows)) → IsTrue (of_order l) → Holds m l
literal_holds m (lit.AtMost a b) r s rows (is, none) met t =
    let (left, right, all) = both (of_numbers a) (of_numbers b) t in
    numbers_at_most (meaning_at m a) (meaning_at m b) (number_at m a) (number_at m b) (number_meant m a left) (number_meant m b right) (there_holds m (of_numbers a && of_numbers b) a b r (s ∷ rows) all is met)
literal_holds m (lit.Same a b) r s rows (is, back) met t =
    let (left, right, all) = both (of_numbers a) (of_numbers b) t in
    numbers_same (meaning_at m a) (meaning_at m b) (number_at m a) (number_at m b) (number_meant m a left) (number_meant m b right) (there_holds m (of_numbers a && of_numbers b) a b r (s ∷ rows) all is met)
    (there_holds m (of_numbers a && of_numbers b) b a s rows all back (later_met m r (s ∷ rows) met))
literal_holds m (lit.Apart a b) r s rows is met t = absurd (cc)
literal_holds m (lit.Flag n held) r s rows is met t = absurd (cc)

literals_hold : (m : Valued) (fs : List Literal) (all : List (Option Row)) → AreAllThere fs all → All (IsMetIn m) (present all) → All (λ l. IsTrue (of_order l) → Holds m l) fs
literals_hold m [] all are met = All-nil (λ l. IsTrue (of_order l) → Holds m l)
literals_hold m (l ∷ fs) [] are met = absurd are
literals_hold m (l ∷ fs) (x ∷ []) are met = absurd are
literals_hold m (l ∷ fs) (x ∷ y ∷ all) are met =
    All-cons (λ k. IsTrue (of_order k) → Holds m k) l fs (literal_holds m l x y all are.0 met) (literals_hold m fs all are.1 (later_met m y all (later_met m x (y ∷ all) met)))

at_all : {X A B : Type 0} (Q : A → B → X → Type 0) (P : X → Type 0) (xs : List X) → ((a : A) (b : B) → All (λ x. P x → Q a b x) xs) → All (λ x. P x → (a : A) (b : B) → Q a b x) xs
at_all Q P [] h = All-nil (λ x. P x → (a : _) (b : _) → Q a b x)
at_all Q P (x ∷ xs) h =
    All-cons (λ y. P y → (a : _) (b : _) → Q a b y) x xs (λ p a b. All-head (λ y. P y → Q a b y) x xs (h a b) p) (at_all Q P xs (λ a b. All-tail (λ y. P y → Q a b y) x xs (h a b)))

-- at a solution of their rows the assumptions hold
pub solution_holds : (fs : List Literal) (rows : List Row) (numbers : List ℕ) (p : Point) → AreRead fs rows numbers → IsSolution rows p → IsMet fs p
solution_holds fs rows numbers p is (unit, met) = record {
  unit = unit;
  hold = at_all (λ references flags l. Holds (valued_at p references flags) l) (λ l. IsTrue (of_order l)) fs (λ references flags. literals_hold (valued_at p references flags) fs is.all is.are (subst (λ z. All (IsMetAt p) z) is.rows_are met));
}
