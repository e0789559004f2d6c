-- The first assumptions of a condition: its hypotheses and the opposite of its goal.
use Rattle.std.specs.Prelude.{◌≡◌, ℕ, zero, suc, ◌⊎◌, Bool, true, false, ◌&&◌, ◌||◌, not, IsTrue, pos, List, [], ◌∷◌, ◌++◌, map, All, Contains, Some, slice_get, ℤ}
use Rattle.std.proofs.Common.{refl, ap, sym, subst, ◌∙◌, inl, inr, rules}
use Rattle.std.proofs.lemmas.List.Elements.{All-contains}
use Rattle.terms.specs.declared.Term.{Term, Term-F, Add, Lit, RefLit, map-Term, out-Term, fold_out-Term, the_lemmas}
use Rattle.terms.specs.declared.Literal.{Literal}
use Rattle.terms.specs.declared.Literal.TheVariants as lit
use Rattle.terms.specs.Sorts.{of_numbers, of_references, of_one_sort, sorted, number_step, reference_form}
use Rattle.terms.specs.Fitting.{sides_of}
use Rattle.proof_checker.specs.declared.Condition.{Condition}
use Rattle.proof_checker.specs.Conditions.{literals_of, IsSorted, opposite, plain, plain_form, plain_literal, plus_one}
use Rattle.proof_checker.specs.Derivations.{AreNumbers, first_assumptions}
use Rattle.cond_plan.specs.declared.Plan.{Plan}
use Rattle.cond_plan.specs.Compared.{as_sides, OrderIn, of_comparison, Outcome, at_most, at_least, above}
use Rattle.cond_plan.specs.Plans.{IsListed, IsPlan}
use Rattle.proof_checker.proofs.Facts.{holds_at}
use Rattle.cond_facts.specs.ConditionPoints.{AreFormsWithin, IsWideForm, of_row, IsNarrow}
use Rattle.cond_facts.specs.Decisions.{IsOrderOf, IsFactOf, IsApartListed, AreRowsTold, IsWideFactAt}
use Rattle.cond_facts.specs.Decisions as decided
use Rattle.cond_facts.proofs.FactLaws.{narrow_order_fits}
use Rattle.cond_facts.proofs.Fitted.{of_all, placed, member_at}

-- a literal, plain, or its opposite
abbrev IsOneOf : Literal → Literal → Type 0
IsOneOf k l = (l ≡ plain_literal k) ⊎ (l ≡ plain_literal (opposite k))

abbrev IsFirstAt : Condition → ℕ → Literal → Type 0
IsFirstAt c n l = (k : Literal) × (slice_get (literals_of c) n ≡ Some k) × IsOneOf k l

same_some : {X : Type 0} (x y : X) → Some x ≡ Some y → y ≡ x
same_some x y e = cc

first_in : (hs : List Literal) (g : Literal) (n : ℕ) (l : Literal) → slice_get (map plain_literal (hs ++ opposite g ∷ [])) n ≡ Some l → (k : Literal) × (slice_get (hs ++ g ∷ []) n ≡ Some k) × IsOneOf k l
first_in [] g zero l e = (g, refl, inr (same_some _ _ e))
first_in [] g (suc n) l e = absurd (cc)
first_in (h ∷ hs) g zero l e = (h, refl, inl (same_some _ _ e))
first_in (h ∷ hs) g (suc n) l e = first_in hs g n l e

-- the assumption of a number is the literal of that number or its opposite
pub first_at : (c : Condition) (n : ℕ) (l : Literal) → slice_get (first_assumptions c) n ≡ Some l → IsFirstAt c n l
first_at c n l e = first_in c.hyps c.goal n l e

out-RefLit : (n : ℕ) → out-Term (RefLit n) ≡ Term-F.RefLit n
out-RefLit n = search (rules, the_lemmas)

out-Add : (a b : Term) → out-Term (Add a b) ≡ Term-F.Add a b
out-Add a b = search (rules, the_lemmas)

out-Lit : (z : ℤ) → out-Term (Lit z) ≡ Term-F.Lit z
out-Lit z = search (rules, the_lemmas)

numbers_by : (t : Term) (x : Term-F Term) → out-Term t ≡ x → of_numbers t ≡ number_step (map-Term Term Bool of_numbers x)
numbers_by t x e = fold_out-Term Bool number_step t ∙ ap (λ y. number_step (map-Term Term Bool of_numbers y)) e

no_reference : (n : ℕ) → IsTrue (of_numbers (RefLit n)) → ⊥
no_reference n h = let e = numbers_by (RefLit n) (Term-F.RefLit n) (out-RefLit n) in absurd (cc)

plain_number_form : (t : Term) (x : Term-F Term) → IsTrue (of_numbers (plain_form t x)) → plain_form t x ≡ t
plain_number_form t Term-F.Nil h = absurd (no_reference 0 h)
plain_number_form t (Term-F.Sym n) h = refl
plain_number_form t (Term-F.Lit z) h = refl
plain_number_form t (Term-F.Add a b) h = refl
plain_number_form t (Term-F.Scale k a) h = refl
plain_number_form t (Term-F.App operator all) h = refl
plain_number_form t (Term-F.RefSym n) h = refl
plain_number_form t (Term-F.RefLit n) h = refl

-- what is plain and a number is as it was
plain_number : (t : Term) → IsTrue (of_numbers (plain t)) → plain t ≡ t
plain_number t h = plain_number_form t (out-Term t) h

numbers_plain_form : (t : Term) (x : Term-F Term) → out-Term t ≡ x → of_numbers (plain_form t x) ≡ of_numbers t
numbers_plain_form t Term-F.Nil e = numbers_by (RefLit 0) (Term-F.RefLit 0) (out-RefLit 0) ∙ sym (numbers_by t Term-F.Nil e)
numbers_plain_form t (Term-F.Sym n) e = refl
numbers_plain_form t (Term-F.Lit z) e = refl
numbers_plain_form t (Term-F.Add a b) e = refl
numbers_plain_form t (Term-F.Scale k a) e = refl
numbers_plain_form t (Term-F.App operator all) e = refl
numbers_plain_form t (Term-F.RefSym n) e = refl
numbers_plain_form t (Term-F.RefLit n) e = refl

numbers-plain : (t : Term) → of_numbers (plain t) ≡ of_numbers t
numbers-plain t = numbers_plain_form t (out-Term t) refl

references_plain_form : (t : Term) (x : Term-F Term) → out-Term t ≡ x → of_references (plain_form t x) ≡ of_references t
references_plain_form t Term-F.Nil e = ap reference_form (out-RefLit 0) ∙ sym (ap reference_form e)
references_plain_form t (Term-F.Sym n) e = refl
references_plain_form t (Term-F.Lit z) e = refl
references_plain_form t (Term-F.Add a b) e = refl
references_plain_form t (Term-F.Scale k a) e = refl
references_plain_form t (Term-F.App operator all) e = refl
references_plain_form t (Term-F.RefSym n) e = refl
references_plain_form t (Term-F.RefLit n) e = refl

references-plain : (t : Term) → of_references (plain t) ≡ of_references t
references-plain t = references_plain_form t (out-Term t) refl

plain_again_form : (t : Term) (x : Term-F Term) → out-Term t ≡ x → plain (plain_form t x) ≡ plain_form t x
plain_again_form t Term-F.Nil e = ap (plain_form (RefLit 0)) (out-RefLit 0)
plain_again_form t (Term-F.Sym n) e = ap (plain_form t) e
plain_again_form t (Term-F.Lit z) e = ap (plain_form t) e
plain_again_form t (Term-F.Add a b) e = ap (plain_form t) e
plain_again_form t (Term-F.Scale k a) e = ap (plain_form t) e
plain_again_form t (Term-F.App operator all) e = ap (plain_form t) e
plain_again_form t (Term-F.RefSym n) e = ap (plain_form t) e
plain_again_form t (Term-F.RefLit n) e = ap (plain_form t) e

plain_again : (t : Term) → plain (plain t) ≡ plain t
plain_again t = plain_again_form t (out-Term t) refl

literal_again : (l : Literal) → plain_literal (plain_literal l) ≡ plain_literal l
literal_again (lit.AtMost a b) = ap (λ x. lit.AtMost x (plain (plain b))) (plain_again a) ∙ ap (lit.AtMost (plain a)) (plain_again b)
literal_again (lit.Same a b) = ap (λ x. lit.Same x (plain (plain b))) (plain_again a) ∙ ap (lit.Same (plain a)) (plain_again b)
literal_again (lit.Apart a b) = ap (λ x. lit.Apart x (plain (plain b))) (plain_again a) ∙ ap (lit.Apart (plain a)) (plain_again b)
literal_again (lit.Flag n held) = refl

two : (f : Bool → Bool → Bool) (a b x y : Bool) → a ≡ x → b ≡ y → f a b ≡ f x y
two f a b x y e g = ap (λ z. f z b) e ∙ ap (f x) g

one_sort-plain : (a b : Term) → of_one_sort (plain a) (plain b) ≡ of_one_sort a b
one_sort-plain a b =
    two (λ p q. p || q) _ _ _ _ (two (λ p q. p && q) _ _ _ _ (numbers-plain a) (numbers-plain b)) (two (λ p q. p && q) _ _ _ _ (references-plain a) (references-plain b))

sorted-plain : (l : Literal) → sorted (plain_literal l) ≡ sorted l
sorted-plain (lit.AtMost a b) = two (λ p q. p && q) _ _ _ _ (numbers-plain a) (numbers-plain b)
sorted-plain (lit.Same a b) = one_sort-plain a b
sorted-plain (lit.Apart a b) = one_sort-plain a b
sorted-plain (lit.Flag n held) = refl

numbers-one : (t : Term) → of_numbers (plus_one t) ≡ (of_numbers t && true)
numbers-one t =
    numbers_by (plus_one t) (Term-F.Add t (Lit (pos 1))) (out-Add t (Lit (pos 1))) ∙ ap (λ b. of_numbers t && b) (numbers_by (Lit (pos 1)) (Term-F.Lit (pos 1)) (out-Lit (pos 1)))

exchanged : (a b : Bool) → ((a && true) && b) ≡ (b && a)
exchanged true true = refl
exchanged true false = refl
exchanged false true = refl
exchanged false false = refl

sorted-opposite : (l : Literal) → sorted (opposite l) ≡ sorted l
sorted-opposite (lit.AtMost a b) = ap (λ x. x && of_numbers a) (numbers-one b) ∙ exchanged (of_numbers b) (of_numbers a)
sorted-opposite (lit.Same a b) = refl
sorted-opposite (lit.Apart a b) = refl
sorted-opposite (lit.Flag n held) = refl

plain-one : (t : Term) → plain (plus_one t) ≡ plus_one t
plain-one t = ap (plain_form (plus_one t)) (out-Add t (Lit (pos 1)))

-- the assumption is sorted where the literal is
pub first_sorted : (k l : Literal) → IsTrue (sorted k) → IsOneOf k l → IsTrue (sorted l)
first_sorted k l h (inl e) = subst (λ x. IsTrue (sorted x)) (sym e) (subst IsTrue (sym (sorted-plain k)) h)
first_sorted k l h (inr e) =
    subst (λ x. IsTrue (sorted x)) (sym e) (subst IsTrue (sym (sorted-plain (opposite k) ∙ sorted-opposite k)) h)

-- it is plain
pub first_plain : (k l : Literal) → IsOneOf k l → plain_literal l ≡ l
first_plain k l (inl e) = ap plain_literal e ∙ literal_again k ∙ sym e
first_plain k l (inr e) = ap plain_literal e ∙ literal_again (opposite k) ∙ sym e

both_true : (a b : Bool) → IsTrue (a && b) → IsTrue a × IsTrue b
both_true true true h = (h, h)
both_true true false h = absurd (cc)
both_true false b h = absurd (cc)

-- an order of two terms that are numbers and plain is one of the two terms
as_they_are : (P : Term → Term → Type 0) (a b : Term) → AreNumbers (plain a) (plain b) → P a b → P (plain a) (plain b)
as_they_are P a b numbers h =
    subst (λ z. P z (plain b)) (sym (plain_number a numbers.left)) (subst (λ z. P a z) (sym (plain_number b numbers.right)) h)

numbers_before : (a b : Term) → AreNumbers (plain a) (plain b) → AreNumbers a b
numbers_before a b n = record {
  left = subst IsTrue (numbers-plain a) n.left;
  right = subst IsTrue (numbers-plain b) n.right;
}

exchange : (a b : Term) → AreNumbers a b → AreNumbers b a
exchange a b n = record { left = n.right; right = n.left }

in_sides : (c : Condition) (n : ℕ) (k : Literal) (a b x y : Term) → slice_get (literals_of c) n ≡ Some k → sides_of k ≡ Some (a, b) → AreNumbers a b → Outcome a b x y → OrderIn c n x y
in_sides c n k a b x y at e numbers is = of_comparison a b x y numbers (as_sides k a b at e) is

-- what IsOrderOf says of each form of literal
at_most_of : (P : Term → Term → Type 0) (l : Literal) (a b x y : Term) → l ≡ lit.AtMost a b → (AreNumbers a b → P a b) → IsOrderOf l x y → P x y
at_most_of P l a b x y e f (decided.at_most u v numbers) = let (g, h) = sides_are u v a b e in subst (λ z. P z v) (sym g) (subst (λ z. P a z) (sym h) (f (subst (λ z. AreNumbers z b) g (subst (λ z. AreNumbers u z) h numbers))))
  where
    sides_are : (u v a b : Term) → lit.AtMost u v ≡ lit.AtMost a b → (u ≡ a) × (v ≡ b)
    sides_are u v a b e = (cc, cc)
at_most_of P l a b x y e f (decided.forth u v numbers) = absurd (cc)
at_most_of P l a b x y e f (decided.back u v numbers) = absurd (cc)

same_of : (P : Term → Term → Type 0) (l : Literal) (a b x y : Term) → l ≡ lit.Same a b → (AreNumbers a b → P a b) → (AreNumbers a b → P b a) → IsOrderOf l x y → P x y
same_of P l a b x y e f g (decided.at_most u v numbers) = absurd (cc)
same_of P l a b x y e f g (decided.forth u v numbers) = let (p, q) = sides_are u v a b e in subst (λ z. P z v) (sym p) (subst (λ z. P a z) (sym q) (f (subst (λ z. AreNumbers z b) p (subst (λ z. AreNumbers u z) q numbers))))
  where
    sides_are : (u v a b : Term) → lit.Same u v ≡ lit.Same a b → (u ≡ a) × (v ≡ b)
    sides_are u v a b e = (cc, cc)
same_of P l a b x y e f g (decided.back u v numbers) = let (p, q) = sides_are u v a b e in subst (λ z. P z u) (sym q) (subst (λ z. P b z) (sym p) (g (subst (λ z. AreNumbers z b) p (subst (λ z. AreNumbers u z) q numbers))))
  where
    sides_are : (u v a b : Term) → lit.Same u v ≡ lit.Same a b → (u ≡ a) × (v ≡ b)
    sides_are u v a b e = (cc, cc)

apart_of : (P : Term → Term → Type 0) (l : Literal) (a b x y : Term) → l ≡ lit.Apart a b → IsOrderOf l x y → P x y
apart_of P l a b x y e (decided.at_most u v numbers) = absurd (cc)
apart_of P l a b x y e (decided.forth u v numbers) = absurd (cc)
apart_of P l a b x y e (decided.back u v numbers) = absurd (cc)

flag_of : (P : Term → Term → Type 0) (l : Literal) (n : ℕ) (held : Bool) (x y : Term) → l ≡ lit.Flag n held → IsOrderOf l x y → P x y
flag_of P l n held x y e (decided.at_most u v numbers) = absurd (cc)
flag_of P l n held x y e (decided.forth u v numbers) = absurd (cc)
flag_of P l n held x y e (decided.back u v numbers) = absurd (cc)

-- its orders are orders of the literal of that number
first_orders : (c : Condition) (n : ℕ) (k l : Literal) → slice_get (literals_of c) n ≡ Some k → IsOneOf k l → (x y : Term) → IsOrderOf l x y → OrderIn c n x y
first_orders c n (lit.AtMost a b) l at (inl e) x y is =
    at_most_of (OrderIn c n) l (plain a) (plain b) x y e (λ h. as_they_are (OrderIn c n) a b h (in_sides c n _ a b a b at refl (numbers_before a b h) at_most)) is
first_orders c n (lit.AtMost a b) l at (inr e) x y is =
    at_most_of (OrderIn c n) l (plain (plus_one b)) (plain a) x y e (λ h. as_they_are (OrderIn c n) (plus_one b) a h (in_sides c n _ a b (plus_one b) a at refl (opposed (numbers_before (plus_one b) a h)) above)) is
  where
    opposed : AreNumbers (plus_one b) a → AreNumbers a b
    opposed h = record { left = h.right; right = (both_true (of_numbers b) true (subst IsTrue (numbers-one b) h.left)).0 }
first_orders c n (lit.Same a b) l at (inl e) x y is =
    same_of (OrderIn c n) l (plain a) (plain b) x y e (λ h. as_they_are (OrderIn c n) a b h (in_sides c n _ a b a b at refl (numbers_before a b h) at_most)) (λ h. as_they_are (OrderIn c n) b a (exchange (plain a) (plain b) h) (in_sides c n _ a b b a at refl (numbers_before a b h) at_least)) is
first_orders c n (lit.Same a b) l at (inr e) x y is = apart_of (OrderIn c n) l (plain a) (plain b) x y e is
first_orders c n (lit.Apart a b) l at (inl e) x y is = apart_of (OrderIn c n) l (plain a) (plain b) x y e is
first_orders c n (lit.Apart a b) l at (inr e) x y is =
    same_of (OrderIn c n) l (plain a) (plain b) x y e (λ h. as_they_are (OrderIn c n) a b h (in_sides c n _ a b a b at refl (numbers_before a b h) at_most)) (λ h. as_they_are (OrderIn c n) b a (exchange (plain a) (plain b) h) (in_sides c n _ a b b a at refl (numbers_before a b h) at_least)) is
first_orders c n (lit.Flag m held) l at (inl e) x y is = flag_of (OrderIn c n) l m held x y e is
first_orders c n (lit.Flag m held) l at (inr e) x y is = flag_of (OrderIn c n) l m (not held) x y e is

sorted_at : (c : Condition) → IsSorted c → (n : ℕ) (k : Literal) → slice_get (literals_of c) n ≡ Some k → IsTrue (sorted k)
sorted_at c all n k at = holds_at (λ l. IsTrue (sorted l)) (literals_of c) n k all at

-- the first assumptions are facts of the condition where their rows are within 128 bits
pub first_facts_are : (c : Condition) → IsSorted c → All (λ l. AreRowsTold l true) (first_assumptions c) → All (IsFactOf c) (first_assumptions c)
first_facts_are c all told = of_all (IsFactOf c) (first_assumptions c) each
  where
    each : (l : Literal) → Contains (first_assumptions c) l → IsFactOf c l
    each l there =
        let (n, at) = placed (first_assumptions c) l there in
        let (k, at_k, one) = first_at c n l at in
        record {
          is_sorted = first_sorted k l (sorted_at c all n k at_k) one;
          is_plain = first_plain k l one;
          orders = λ x y is. (n, first_orders c n k l at_k one x y is);
          fit = All-contains (λ l. AreRowsTold l true) (first_assumptions c) l told there;
        }

-- one of them with a row outside 128 bits is a wide form of its literal
pub wide_first : (c : Condition) (i : ℕ) → AreFormsWithin c → IsWideFactAt (first_assumptions c) i → IsWideForm c i
wide_first c i forms (l, at, (x, y, is, wide)) =
    let (k, at_k, one) = first_at c i l at in of_row x y forms (first_orders c i k l at_k one x y is) wide

-- a narrow condition has none
pub no_wide_first : (c : Condition) (i : ℕ) → IsNarrow c → IsWideFactAt (first_assumptions c) i → ⊥
no_wide_first c i narrow (l, at, (x, y, is, wide)) =
    let (k, at_k, one) = first_at c i l at in wide (narrow_order_fits c i x y narrow (first_orders c i k l at_k one x y is))

-- numbers that a first assumption says to be apart are listed as compared
apart_at : (c : Condition) (plan : Plan) (k : Literal) (u v a b : Term) → IsPlan c plan → Contains (literals_of c) k → sides_of k ≡ Some (u, v) → plain u ≡ a → plain v ≡ b → AreNumbers a b → IsListed plan.comparisons a b
apart_at c plan k u v a b is there e f g numbers =
    let plain_are : AreNumbers (plain u) (plain v) = subst (λ z. AreNumbers z (plain v)) (sym f) (subst (λ z. AreNumbers a z) (sym g) numbers) in
    subst (λ z. IsListed plan.comparisons z b) f (subst (λ z. IsListed plan.comparisons (plain u) z) g (as_they_are (IsListed plan.comparisons) u v plain_are (is.comparisons.sides k u v there e (numbers_before u v plain_are))))

apart_sides : (u v a b : Term) → lit.Apart u v ≡ lit.Apart a b → (u ≡ a) × (v ≡ b)
apart_sides u v a b e = (cc, cc)

apart_one : (c : Condition) (plan : Plan) (k l : Literal) (a b : Term) → IsPlan c plan → Contains (literals_of c) k → IsOneOf k l → l ≡ lit.Apart a b → AreNumbers a b → IsListed plan.comparisons a b
apart_one c plan (lit.Apart u v) l a b is there (inl e) f numbers =
    let (g, h) = apart_sides (plain u) (plain v) a b (sym e ∙ f) in apart_at c plan _ u v a b is there refl g h numbers
apart_one c plan (lit.Same u v) l a b is there (inr e) f numbers =
    let (g, h) = apart_sides (plain u) (plain v) a b (sym e ∙ f) in apart_at c plan _ u v a b is there refl g h numbers
apart_one c plan (lit.Apart u v) l a b is there (inr e) f numbers = absurd (cc)
apart_one c plan (lit.Same u v) l a b is there (inl e) f numbers = absurd (cc)
apart_one c plan (lit.AtMost u v) l a b is there (inl e) f numbers = absurd (cc)
apart_one c plan (lit.AtMost u v) l a b is there (inr e) f numbers = absurd (cc)
apart_one c plan (lit.Flag n held) l a b is there (inl e) f numbers = absurd (cc)
apart_one c plan (lit.Flag n held) l a b is there (inr e) f numbers = absurd (cc)

pub first_apart : (c : Condition) (plan : Plan) → IsPlan c plan → All (IsApartListed plan) (first_assumptions c)
first_apart c plan is = of_all (IsApartListed plan) (first_assumptions c) each
  where
    each : (l : Literal) → Contains (first_assumptions c) l → IsApartListed plan l
    each l there a b e numbers =
        let (n, at) = placed (first_assumptions c) l there in
        let (k, at_k, one) = first_at c n l at in
        apart_one c plan k l a b is (member_at (literals_of c) n k at_k) one e numbers
