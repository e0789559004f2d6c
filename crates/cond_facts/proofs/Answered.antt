-- A point that fits and makes the first assumptions true is a counterexample.
use Rattle.std.specs.Prelude.{◌≡◌, ℕ, ◌==◌, ◌⊎◌, Bool, true, false, ◌&&◌, ◌||◌, IsTrue, List, [], ◌∷◌, ◌++◌, map, All, Contains, Some, slice_get, ℤ}
use Rattle.std.proofs.Common.{refl, ap, sym, subst, ◌∙◌, inl, inr}
use Rattle.std.proofs.lemmas.List.Elements.{All-nil, All-cons, All-head, All-tail, All-contains}
use Rattle.lin_rows.specs.declared.Point.{Point}
use Rattle.terms.specs.declared.Term.{Term, Term-F, map-Term, out-Term, fold_out-Term}
use Rattle.terms.specs.declared.Literal.{Literal}
use Rattle.terms.specs.declared.Literal.TheVariants as lit
use Rattle.terms.specs.Sorts.{of_numbers, of_references, reference_form, of_one_sort, sorted}
use Rattle.terms.specs.Fitting.{Application, AppliedIn, AreCompared, sides, operands, sides_of, Fits}
use Rattle.terms.specs.Meanings.{Valued, Meaning, Reference, Holds, AreClear, meaning_at, meaning_step}
use Rattle.proof_checker.specs.declared.Condition.{Condition}
use Rattle.proof_checker.specs.Conditions.{literals_of, IsSorted, opposite, plain_literal}
use Rattle.proof_checker.specs.Derivations.{AreNumbers, AreReferences, first_assumptions}
use Rattle.proof_checker.specs.Valuations.{reference_in, flag_in}
use Rattle.proof_checker.proofs.Facts.{holds_at}
use Rattle.proof_checker.proofs.Ruled.{same_places}
use Rattle.cond_plan.specs.declared.Applied.{Applied}
use Rattle.cond_plan.specs.declared.Plan.{Plan}
use Rattle.cond_plan.specs.Applied.{application_of}
use Rattle.cond_plan.specs.Plans.{IsPlan}
use Rattle.cond_plan.specs.PointValues.{valued_at, HoldsAtPoint}
use Rattle.cond_facts.specs.Decisions.{of_comparison, IsFittingPoint, IsCounterexample, DoReferencesHold, DoFlagsHold, IsFlag, valuation_of}
use Rattle.cond_facts.specs.ReferencePairs.{ComparesReferences}
use Rattle.cond_facts.proofs.Fitted.{of_all, placed, numbers_of}
use Rattle.cond_facts.proofs.Firsts.{first_at, first_sorted}
use Rattle.cond_facts.proofs.Opposing.{plain_holds, opposed}

either : (a b : Bool) → IsTrue (a || b) → IsTrue a ⊎ IsTrue b
either true b h = inl h
either false true h = inr h
either false false h = absurd (cc)

both : (a b : Bool) → IsTrue (a && b) → IsTrue a × IsTrue b
both true true h = (h, h)
both true false h = absurd (cc)
both false b h = absurd (cc)

references_of : (a b : Term) → IsTrue (of_references a && of_references b) → AreReferences a b
references_of a b h = record { left = (both (of_references a) (of_references b) h).0; right = (both (of_references a) (of_references b) h).1 }

-- a literal holds where it does whatever it speaks of
holds_by_sort : (m : Valued) (l : Literal) → IsTrue (sorted l) → (IsTrue (of_comparison l) → Holds m l) → (ComparesReferences l → Holds m l) → (IsFlag l → Holds m l) → Holds m l
holds_by_sort m (lit.AtMost a b) h f g k = f h
holds_by_sort m (lit.Same a b) h f g k = by_sort (either (of_numbers a && of_numbers b) (of_references a && of_references b) h)
  where
    by_sort : IsTrue (of_numbers a && of_numbers b) ⊎ IsTrue (of_references a && of_references b) → Holds m (lit.Same a b)
    by_sort (inl n) = f n
    by_sort (inr r) = g (references_of a b r)
holds_by_sort m (lit.Apart a b) h f g k = by_sort (either (of_numbers a && of_numbers b) (of_references a && of_references b) h)
  where
    by_sort : IsTrue (of_numbers a && of_numbers b) ⊎ IsTrue (of_references a && of_references b) → Holds m (lit.Apart a b)
    by_sort (inl n) = f n
    by_sort (inr r) = g (references_of a b r)
holds_by_sort m (lit.Flag n held) h f g k = k tt

meant : (m : Valued) (t : Term) (x : Term-F Term) → out-Term t ≡ x → meaning_at m t ≡ meaning_step m (map-Term Term Meaning (meaning_at m) x)
meant m t x e =
    fold_out-Term Meaning (meaning_step m) t ∙ ap (λ y. meaning_step m (map-Term Term Meaning (meaning_at m) y)) e

reference_meant : (m : Valued) (t : Term) (x : Term-F Term) → out-Term t ≡ x → reference_form x ≡ true → (n : ℕ) × (meaning_at m t ≡ Reference n)
reference_meant m t (Term-F.RefSym n) e h = (m.references n, meant m t (Term-F.RefSym n) e)
reference_meant m t (Term-F.RefLit n) e h = (n, meant m t (Term-F.RefLit n) e)
reference_meant m t Term-F.Nil e h = (0, meant m t Term-F.Nil e)
reference_meant m t x e h = absurd (cc)

clear_numbers : (unit : ℤ) (i j : ℕ) → AreClear unit (Reference i) (Reference j)
clear_numbers unit i j = by_equal (i == j) refl
  where
    by_equal : (b : Bool) → (i == j) ≡ b → AreClear unit (Reference i) (Reference j)
    by_equal true e = inl (ap Reference ((same_places i j).1 e))
    by_equal false e = inr (λ f. let g : i ≡ j = cc in let h = (same_places i j).0 g in absurd (cc))

-- references are equal or differ
clear_references : (m : Valued) (a b : Term) → AreReferences a b → AreClear m.unit (meaning_at m a) (meaning_at m b)
clear_references m a b refs =
    let (i, e) = reference_meant m a (out-Term a) refl refs.left in
    let (j, f) = reference_meant m b (out-Term b) refl refs.right in
    subst (λ z. AreClear m.unit z (meaning_at m b)) (sym e) (subst (λ z. AreClear m.unit (Reference i) z) (sym f) (clear_numbers m.unit i j))

abbrev two_terms : Term → Term → Term × Term
two_terms a b = (a, b)

pair_sides : (x y a b : Term) → Some (two_terms x y) ≡ Some (two_terms a b) → (x ≡ a) × (y ≡ b)
pair_sides x y a b e = let f : two_terms x y ≡ two_terms a b = cc in (ap (λ z. z.0) f, ap (λ z. z.1) f)

moved : (P : Term → Term → Type 0) (x y a b : Term) → Some (two_terms x y) ≡ Some (two_terms a b) → P x y → P a b
moved P x y a b e h = let (f, g) = pair_sides x y a b e in subst (λ z. P z b) f (subst (λ z. P x z) g h)

sort_of_two : (x y : Term) → IsTrue (of_one_sort x y) → AreNumbers x y ⊎ AreReferences x y
sort_of_two x y h = told (either (of_numbers x && of_numbers y) (of_references x && of_references y) h)
  where
    told : IsTrue (of_numbers x && of_numbers y) ⊎ IsTrue (of_references x && of_references y) → AreNumbers x y ⊎ AreReferences x y
    told (inl n) = inl (numbers_of x y n)
    told (inr r) = inr (references_of x y r)

abbrev OfOneSort : Term → Term → Type 0
OfOneSort a b = AreNumbers a b ⊎ AreReferences a b

sorts_of : (l : Literal) (a b : Term) → IsTrue (sorted l) → sides_of l ≡ Some (a, b) → OfOneSort a b
sorts_of (lit.AtMost x y) a b h e = moved OfOneSort x y a b e (inl (numbers_of x y h))
sorts_of (lit.Same x y) a b h e = moved OfOneSort x y a b e (sort_of_two x y h)
sorts_of (lit.Apart x y) a b h e = moved OfOneSort x y a b e (sort_of_two x y h)
sorts_of (lit.Flag n held) a b h e = absurd (cc)

operand_number : (c : Condition) (plan : Plan) → IsPlan c plan → (f : Application) (k : ℕ) (a : Term) → AppliedIn (literals_of c) f → slice_get f.operands k ≡ Some a → IsTrue (of_numbers a)
operand_number c plan is f k a at e = listed (is.applications.all f at)
  where
    listed : (x : Applied) × Contains plan.applications x × (application_of x ≡ f) → IsTrue (of_numbers a)
    listed (x, there, same) =
        let numbers = All-contains (λ y. AreNumbers y.result y.result × All (λ t. AreNumbers t t) y.operands) plan.applications x is.numbers there in
        (holds_at (λ t. AreNumbers t t) x.operands k a numbers.1 (ap (λ y. slice_get y.operands k) same ∙ e)).left

clear_here : (c : Condition) (plan : Plan) (fs : List Literal) (p : Point) → IsSorted c → IsPlan c plan → IsFittingPoint c fs p → (references : ℕ → ℕ) (flags : ℕ → Bool) (a b : Term) → AreCompared (literals_of c) a b → AreClear p.q (meaning_at (valued_at p references flags) a) (meaning_at (valued_at p references flags) b)
clear_here c plan fs p all is fit references flags _ _ (sides l a b there e) =
    by_sort (sorts_of l a b (All-contains (λ k. IsTrue (sorted k)) (literals_of c) l all there) e)
  where
    by_sort : OfOneSort a b → AreClear p.q (meaning_at (valued_at p references flags) a) (meaning_at (valued_at p references flags) b)
    by_sort (inl numbers) = fit.clear a b numbers (sides l a b there e) references flags
    by_sort (inr refs) = clear_references (valued_at p references flags) a b refs
clear_here c plan fs p all is fit references flags _ _ (operands f g k a b at_f at_g op ka kb) =
    fit.clear a b (record { left = operand_number c plan is f k a at_f ka; right = operand_number c plan is g k b at_g kb }) (operands f g k a b at_f at_g op ka kb) references flags

fits_here : (c : Condition) (plan : Plan) (fs : List Literal) (p : Point) → IsSorted c → IsPlan c plan → IsFittingPoint c fs p → (references : ℕ → ℕ) (flags : ℕ → Bool) → Fits (valued_at p references flags) (literals_of c)
fits_here c plan fs p all is fit references flags = record {
  unit = fit.unit;
  clear = clear_here c plan fs p all is fit references flags;
  congruent = λ f g at_f at_g op e. fit.congruent f g at_f at_g op references flags e;
}

-- the first assumptions hold
firsts_hold : (c : Condition) (p : Point) (refs : List (ℕ × ℕ)) (flags : List (ℕ × Bool)) → IsSorted c → IsFittingPoint c (first_assumptions c) p → DoReferencesHold (first_assumptions c) refs → DoFlagsHold (first_assumptions c) flags → All (Holds (valued_at p (reference_in refs) (flag_in flags))) (first_assumptions c)
firsts_hold c p refs flags all fit do_refs do_flags = of_all (Holds m) fs each
  where
    m : Valued
    m = valued_at p (reference_in refs) (flag_in flags)

    fs : List Literal
    fs = first_assumptions c

    each : (l : Literal) → Contains fs l → Holds m l
    each l there =
        let (n, at) = placed fs l there in
        let (k, at_k, one) = first_at c n l at in
        holds_by_sort m l (first_sorted k l (holds_at (λ x. IsTrue (sorted x)) (literals_of c) n k all at_k) one) (λ h. All-contains (λ x. IsTrue (of_comparison x) → HoldsAtPoint p x) fs l fit.hold there h (reference_in refs) (flag_in flags)) (All-contains (λ x. ComparesReferences x → Holds m x) fs l (do_refs m refl) there) (All-contains (λ x. IsFlag x → Holds m x) fs l (do_flags m refl) there)

hypotheses_hold : (m : Valued) (hs : List Literal) (g : Literal) → All (λ l. IsTrue (sorted l)) (hs ++ g ∷ []) → All (Holds m) (map plain_literal (hs ++ opposite g ∷ [])) → All (Holds m) hs × Holds m (plain_literal (opposite g))
hypotheses_hold m [] g all h = (All-nil (Holds m), All-head (Holds m) (plain_literal (opposite g)) [] h)
hypotheses_hold m (l ∷ hs) g all h =
    let (rest, last) = hypotheses_hold m hs g (All-tail (λ k. IsTrue (sorted k)) l (hs ++ g ∷ []) all) (All-tail (Holds m) (plain_literal l) (map plain_literal (hs ++ opposite g ∷ [])) h) in
    (All-cons (Holds m) l hs (plain_holds m l (All-head (Holds m) (plain_literal l) (map plain_literal (hs ++ opposite g ∷ [])) h)) rest, last)

goal_sorted : (hs : List Literal) (g : Literal) → All (λ l. IsTrue (sorted l)) (hs ++ g ∷ []) → IsTrue (sorted g)
goal_sorted [] g all = All-head (λ l. IsTrue (sorted l)) g [] all
goal_sorted (h ∷ hs) g all = goal_sorted hs g (All-tail (λ l. IsTrue (sorted l)) h (hs ++ g ∷ []) all)

-- so the valuation is a counterexample
pub is_counterexample : (c : Condition) (plan : Plan) (p : Point) (refs : List (ℕ × ℕ)) (flags : List (ℕ × Bool)) → IsSorted c → IsPlan c plan → IsFittingPoint c (first_assumptions c) p → DoReferencesHold (first_assumptions c) refs → DoFlagsHold (first_assumptions c) flags → IsCounterexample c (valuation_of p refs flags)
is_counterexample c plan p refs flags all is fit do_refs do_flags =
    let m = valued_at p (reference_in refs) (flag_in flags) in
    let both_hold = hypotheses_hold m c.hyps c.goal all (firsts_hold c p refs flags all fit do_refs do_flags) in
    record {
      fits = fits_here c plan (first_assumptions c) p all is fit (reference_in refs) (flag_in flags);
      hypotheses = both_hold.0;
      goal = opposed m c.goal fit.unit (goal_sorted c.hyps c.goal all) both_hold.1;
    }
