-- Facts of a condition: what of them is outside 128 bits is so in the condition, and nothing is in a
-- narrow one.
use Rattle.std.specs.Prelude.{◌≡◌, ℕ, ◌≤◌, ◌<◌, ◌^◌, ◌⊎◌, Bool, true, false, ◌&&◌, IsTrue, ℤ, pos, ◌+ℤ◌, ◌-ℤ◌, unsigned_abs, List, [], ◌∷◌, ◌++◌, All, Contains, Option, Some, None, slice_get, FitsSigned}
use Rattle.std.specs.Int.{w128}
use Rattle.std.proofs.Common.{refl, ap, sym, subst, ◌∙◌, inl, inr, arith, rules}
use Rattle.std.proofs.lemmas.Int.{ints, fits_signed_from_abs}
use Rattle.std.proofs.lemmas.List.Elements.{All-nil, All-cons, All-head, All-tail, All-append, All-contains, All-contains_itself, All-weaker, Contains-append_left, Contains-push}
use Rattle.lin_rows.specs.declared.Row.{Row}
use Rattle.lin_rows.specs.declared.WidePoint.{WidePoint}
use Rattle.lin_rows.specs.declared.WidePoint.TheVariants as points
use Rattle.terms.specs.declared.Term.{Term, Term-F, Add, Lit, Sym, map-Term, out-Term, fold_out-Term, the_lemmas}
use Rattle.terms.specs.declared.Literal.{Literal}
use Rattle.terms.specs.declared.Literal.TheVariants as lit
use Rattle.terms.specs.Sorts.{of_numbers}
use Rattle.terms.specs.Within.{terms_within}
use Rattle.terms.specs.Forms.{Form, FormFits, AllFormsFit, form_of, form_step, form_sum, form_units}
use Rattle.terms.specs.Fitting.{Application, AppliedIn, terms_in}
use Rattle.proof_checker.specs.declared.Condition.{Condition}
use Rattle.proof_checker.specs.Conditions.{literals_of, plus_one}
use Rattle.proof_checker.specs.Rows.{RowFits, IsRowIf, AreRows, AreAllRows}
use Rattle.proof_checker.proofs.Figuring.{within_is}
use Rattle.cond_plan.specs.Compared.{ComparedIn, as_sides, as_operands, Outcome, OrderIn}
use Rattle.cond_plan.specs.Compared as compared
use Rattle.cond_plan.specs.PointValues.{}
use Rattle.cond_facts.specs.ConditionPoints.{IsRowOf, IsWideIn, IsFormWithin, HasSymbols, IsNarrow}
use Rattle.cond_facts.specs.Decisions.{IsOrderOf, IsFactOf}
use Rattle.cond_facts.specs.Decisions as decided
use Rattle.cond_facts.specs.FactRows.{HasWideRow, IsWideAt, present}
use Rattle.cond_facts.specs.Outcomes.{IsWideOf, IsNarrowOrder, IsNarrowFact, AreNarrow}
use Rattle.cond_facts.proofs.Fitted.{member_at, numbers_of}
use Rattle.cond_facts.proofs.Standing.{closed_in, in_literal, sides_in, operand_in, zero_or_stands}

-- ---- facts have no row outside 128 bits
not_wide : (c : Condition) (l : Literal) → IsFactOf c l → HasWideRow l → ⊥
not_wide c (lit.AtMost a b) fact (t, wide) = wide (fact.fit a b (decided.at_most a b (numbers_of a b t)))
not_wide c (lit.Same a b) fact (t, inl wide) = wide (fact.fit a b (decided.forth a b (numbers_of a b t)))
not_wide c (lit.Same a b) fact (t, inr wide) = wide (fact.fit b a (decided.back a b (numbers_of a b t)))
not_wide c (lit.Apart a b) fact h = h
not_wide c (lit.Flag n held) fact h = h

pub no_wide_row : (c : Condition) (fs : List Literal) (i : ℕ) → All (IsFactOf c) fs → IsWideAt fs i → ⊥
no_wide_row c fs i all (l, at, wide) =
    not_wide c l (All-contains (IsFactOf c) fs l all (member_at fs i l at)) wide

-- ---- the rows of facts are rows of the condition
module _ (c : Condition) where
  with_row : (t : Bool) (a b : Term) (r : Option Row) (rows : List (Option Row)) → (IsTrue t → (n : ℕ) × OrderIn c n a b) → IsRowIf t a b r → All (IsRowOf c) (present rows) → All (IsRowOf c) (present (r ∷ rows))
  with_row true a b (Some r) rows order is all =
      let (n, h) = order refl in
      All-cons (IsRowOf c) r (present rows) (n, a, b, h, is) all
  with_row true a b None rows order is all = all
  with_row false a b r rows order is all = subst (λ o. All (IsRowOf c) (present (o ∷ rows))) (sym is) all

  without : (r : Option Row) (rows : List (Option Row)) → r ≡ None → All (IsRowOf c) (present rows) → All (IsRowOf c) (present (r ∷ rows))
  without r rows e all = subst (λ o. All (IsRowOf c) (present (o ∷ rows))) (sym e) all

  fact_rows : (l : Literal) (r s : Option Row) (rows : List (Option Row)) → IsFactOf c l → AreRows l r s → All (IsRowOf c) (present rows) → All (IsRowOf c) (present (r ∷ s ∷ rows))
  fact_rows (lit.AtMost a b) r s rows fact (is, none) all =
      with_row (of_numbers a && of_numbers b) a b r (s ∷ rows) (λ t. fact.orders a b (decided.at_most a b (numbers_of a b t))) is (without s rows none all)
  fact_rows (lit.Same a b) r s rows fact (is, back) all =
      with_row (of_numbers a && of_numbers b) a b r (s ∷ rows) (λ t. fact.orders a b (decided.forth a b (numbers_of a b t))) is
      (with_row (of_numbers a && of_numbers b) b a s rows (λ t. fact.orders b a (decided.back a b (numbers_of a b t))) back all)
  fact_rows (lit.Apart a b) r s rows fact (is, none) all = without r (s ∷ rows) is (without s rows none all)
  fact_rows (lit.Flag n held) r s rows fact (is, none) all = without r (s ∷ rows) is (without s rows none all)

  rows_of_facts : (fs : List Literal) (rows : List (Option Row)) → All (IsFactOf c) fs → AreAllRows fs rows → All (IsRowOf c) (present rows)
  rows_of_facts [] [] all are = All-nil (IsRowOf c)
  rows_of_facts [] (r ∷ rows) all are = absurd are
  rows_of_facts (l ∷ fs) [] all are = absurd are
  rows_of_facts (l ∷ fs) (r ∷ []) all are = absurd are
  rows_of_facts (l ∷ fs) (r ∷ s ∷ rows) all are =
      fact_rows l r s rows (All-head (IsFactOf c) l fs all) are.0 (rows_of_facts fs rows (All-tail (IsFactOf c) l fs all) are.1)

-- a wide point of the rows of facts is one of the condition
pub wide_of_facts : (c : Condition) (fs : List Literal) (w : WidePoint) → All (IsFactOf c) fs → IsWideOf fs w → IsWideIn c w
wide_of_facts c fs (points.Pair a b v) all (rows, are, wide) = (present rows, rows_of_facts c fs rows all are, wide)
wide_of_facts c fs (points.Bound p r v) all (rows, are, wide) = (present rows, rows_of_facts c fs rows all are, wide)
wide_of_facts c fs (points.Form place) all (rows, are, wide) = absurd wide

-- ---- narrow conditions
few_bits : (n : ℕ) → n ≤ 2 ^ 11 → n < 2 ^ 127
few_bits n h = omega arith

small_fits : (z : ℤ) → unsigned_abs z ≤ 2 ^ 11 → FitsSigned w128 z
small_fits z h = fits_signed_from_abs w128 z (few_bits (unsigned_abs z) h)

less : (m n : ℕ) (z : ℤ) → unsigned_abs z ≤ m → m ≤ n → unsigned_abs z ≤ n
less m n z h le = omega (arith, h, le)

between : (x y : ℤ) → unsigned_abs x ≤ 1001 → unsigned_abs y ≤ 1001 → unsigned_abs (x -ℤ y) ≤ 2 ^ 11
between x y h k = omega (arith, ints, h, k)

same_size : (x y : ℤ) (m : ℕ) → y ≡ x → unsigned_abs x ≤ m → unsigned_abs y ≤ m
same_size x y m e h = subst (λ z. unsigned_abs z ≤ m) (sym e) h

one_more_size : (x : ℤ) → unsigned_abs x ≤ 1000 → unsigned_abs (x +ℤ pos 1) ≤ 1001
one_more_size x h = omega (arith, ints, h)

none_more : (x : ℤ) → x +ℤ pos 0 ≡ x
none_more x = omega (arith, ints)

none_between : (x y : ℤ) → x ≡ pos 0 → y ≡ pos 0 → x -ℤ y ≡ pos 0
none_between x y p q = omega (arith, ints, p, q)

out-Add : (a b : Term) → out-Term (Add a b) ≡ Term-F.Add a b
out-Add a b = search (rules, the_lemmas)

out-Lit : (z : ℤ) → out-Term (Lit z) ≡ Term-F.Lit z
out-Lit z = search (rules, the_lemmas)

form_by : (t : Term) (x : Term-F Term) → out-Term t ≡ x → form_of t ≡ form_step (map-Term Term Form form_of x)
form_by t x e = fold_out-Term Form form_step t ∙ ap (λ y. form_step (map-Term Term Form form_of y)) e

form_of-Lit : (z : ℤ) → form_of (Lit z) ≡ form_units z
form_of-Lit z = form_by (Lit z) (Term-F.Lit z) (out-Lit z)

form_of-plus_one : (t : Term) → form_of (plus_one t) ≡ form_sum (form_of t) (form_units (pos 1))
form_of-plus_one t =
    form_by (plus_one t) (Term-F.Add t (Lit (pos 1))) (out-Add t (Lit (pos 1))) ∙ ap (form_sum (form_of t)) (form_of-Lit (pos 1))

within-plus_one : (t : Term) → terms_within (plus_one t) ≡ plus_one t ∷ terms_within t ++ Lit (pos 1) ∷ []
within-plus_one t =
    within_is (plus_one t) (Term-F.Add t (Lit (pos 1))) (out-Add t (Lit (pos 1))) ∙ ap (λ ts. plus_one t ∷ terms_within t ++ ts) (within_is (Lit (pos 1)) (Term-F.Lit (pos 1)) (out-Lit (pos 1)))

abbrev Fits : Term → Type 0
Fits t = FormFits (form_of t)

one_fits : Fits (Lit (pos 1))
one_fits = subst FormFits (sym (form_of-Lit (pos 1))) (record {
  coefs = λ v. small_fits (pos 0) (omega arith);
  units = small_fits (pos 1) (omega arith);
})

pub small_form_fits : (m : ℕ) (f : Form) → m ≤ 2 ^ 11 → IsFormWithin m f → FormFits f
small_form_fits m f le h = record {
  coefs = λ v. small_fits (f.coefs v) (less m (2 ^ 11) (f.coefs v) (h.coefs v) le);
  units = small_fits f.units (less m (2 ^ 11) f.units h.units le);
}

module _ (u v w : ℕ) where
  abbrev IsAmong : ℕ → Type 0
  IsAmong x = (x ≡ u) ⊎ ((x ≡ v) ⊎ (x ≡ w))

  -- a side of an order that has a narrow row
  record IsNarrowSide (m : ℕ) (t : Term) : Type 0 where
    pub within : AllFormsFit t
    pub numbers : IsFormWithin m (form_of t)
    pub variables : (x : ℕ) → ((form_of t).coefs x ≡ pos 0) ⊎ IsAmong x

  wider : (t : Term) → IsNarrowSide 1000 t → IsNarrowSide 1001 t
  wider t s = record {
    within = s.within;
    numbers = record {
      coefs = λ x. less 1000 1001 ((form_of t).coefs x) (s.numbers.coefs x) (omega arith);
      units = less 1000 1001 (form_of t).units s.numbers.units (omega arith);
    };
    variables = s.variables;
  }

  one_more : (t : Term) → IsNarrowSide 1000 t → IsNarrowSide 1001 (plus_one t)
  one_more t s =
      let coef : (x : ℕ) → (form_of (plus_one t)).coefs x ≡ (form_of t).coefs x = λ x. ap (λ (f : Form). f.coefs x) (form_of-plus_one t) ∙ none_more ((form_of t).coefs x) in
      let units : (form_of (plus_one t)).units ≡ (form_of t).units +ℤ pos 1 = ap (λ (f : Form). f.units) (form_of-plus_one t) in
      let within_ : IsFormWithin 1001 (form_of (plus_one t)) = record {
        coefs = λ x. same_size ((form_of t).coefs x) _ 1001 (coef x) (less 1000 1001 ((form_of t).coefs x) (s.numbers.coefs x) (omega arith));
        units = same_size ((form_of t).units +ℤ pos 1) _ 1001 units (one_more_size (form_of t).units s.numbers.units);
      } in
      record {
        within = record {
          within = subst (All Fits) (sym (within-plus_one t)) (All-cons Fits (plus_one t) (terms_within t ++ Lit (pos 1) ∷ []) (small_form_fits 1001 (form_of (plus_one t)) (omega arith) within_) (All-append Fits (terms_within t) (Lit (pos 1) ∷ []) s.within.within (All-cons Fits (Lit (pos 1)) [] one_fits (All-nil Fits))));
        };
        numbers = within_;
        variables = λ x. elim (s.variables x) [
          | inl none ↦ inl (coef x ∙ none)
          | inr among ↦ inr among
        ];
      }

  narrow_sides : (a b : Term) → IsNarrowSide 1001 a → IsNarrowSide 1001 b → IsNarrowOrder u v w a b
  narrow_sides a b p q = record {
    left = p.within;
    right = q.within;
    coefs = λ x. between ((form_of a).coefs x) ((form_of b).coefs x) (p.numbers.coefs x) (q.numbers.coefs x);
    units = between (form_of b).units (form_of a).units q.numbers.units p.numbers.units;
    variables = λ x some. elim (p.variables x) [
      | inr among ↦ among
      | inl none ↦ elim (q.variables x) [
        | inr among ↦ among
        | inl none_ ↦ absurd (some (none_between ((form_of a).coefs x) ((form_of b).coefs x) none none_))
      ]
    ];
  }

  outcome_narrow : (a b : Term) {x y : Term} → IsNarrowSide 1000 a → IsNarrowSide 1000 b → Outcome a b x y → IsNarrowOrder u v w x y
  outcome_narrow a b p q compared.at_most = narrow_sides a b (wider a p) (wider b q)
  outcome_narrow a b p q compared.at_least = narrow_sides b a (wider b q) (wider a p)
  outcome_narrow a b p q compared.below = narrow_sides (plus_one a) b (one_more a p) (wider b q)
  outcome_narrow a b p q compared.above = narrow_sides (plus_one b) a (one_more b q) (wider a p)

  module _ (c : Condition) (symbols : HasSymbols c u v w) (numbers : All (λ t. IsFormWithin 1000 (form_of t)) (terms_in (literals_of c))) where
    abbrev Stands : Term → Type 0
    Stands t = Contains (terms_in (literals_of c)) t

    side_of : (t : Term) → Stands t → IsNarrowSide 1000 t
    side_of t h =
        let at : (s : Term) → Stands s → IsFormWithin 1000 (form_of s) = λ s k. All-contains (λ r. IsFormWithin 1000 (form_of r)) (terms_in (literals_of c)) s numbers k in
        record {
          within = record { within = All-weaker (Contains (terms_within t)) Fits (λ s k. small_form_fits 1000 (form_of s) (omega arith) (at s (closed_in (literals_of c) t s h k))) (terms_within t) (All-contains_itself (terms_within t)) };
          numbers = at t h;
          variables = λ x. elim (zero_or_stands x t) [
            | inl none ↦ inl none
            | inr k ↦ inr (symbols x (closed_in (literals_of c) t (Sym x) h k))
          ];
        }

    compared_stand : {a b : Term} (n : ℕ) → ComparedIn c n a b → Stands a × Stands b
    compared_stand n (as_sides l a b at e) =
        let (p, q) = sides_in l a b e in
        (in_literal (literals_of c) n l a at p, in_literal (literals_of c) n l b at q)
    compared_stand n (as_operands l f g k a b at fs gs same at_a at_b) = (
      in_literal (literals_of c) n l a at (operand_in (l ∷ []) f a fs (Contains-append_left f.operands (f.result ∷ []) a (member_at f.operands k a at_a))),
      operand_in (literals_of c) g b gs (Contains-append_left g.operands (g.result ∷ []) b (member_at g.operands k b at_b)),
    )

    first_result : (n : ℕ) (l : Literal) (f : Application) → slice_get (literals_of c) n ≡ Some l → AppliedIn (l ∷ []) f → IsNarrowSide 1000 f.result
    first_result n l f at h =
        side_of f.result (in_literal (literals_of c) n l f.result at (operand_in (l ∷ []) f f.result h (Contains-push f.operands f.result)))

    second_result : (f : Application) → AppliedIn (literals_of c) f → IsNarrowSide 1000 f.result
    second_result f h =
        side_of f.result (operand_in (literals_of c) f f.result h (Contains-push f.operands f.result))

    order_narrow : {x y : Term} (n : ℕ) → OrderIn c n x y → IsNarrowOrder u v w x y
    order_narrow n (compared.of_comparison a b x y are h outcome) =
        let (p, q) = compared_stand n h in
        outcome_narrow a b (side_of a p) (side_of b q) outcome
    order_narrow n (compared.of_results l f g at fs gs same) =
        narrow_sides f.result g.result (wider f.result (first_result n l f at fs)) (wider g.result (second_result g gs))
    order_narrow n (compared.of_results_turned l f g at fs gs same) =
        narrow_sides g.result f.result (wider g.result (second_result g gs)) (wider f.result (first_result n l f at fs))

    -- an order of a fact has a narrow row
    fact_order : (l : Literal) (a b : Term) → IsFactOf c l → IsOrderOf l a b → IsNarrowOrder u v w a b
    fact_order l a b fact h = let (n, order) = fact.orders a b h in order_narrow n order

    fact_narrow : (l : Literal) → IsFactOf c l → IsNarrowFact u v w l
    fact_narrow (lit.AtMost a b) fact = λ t. fact_order (lit.AtMost a b) a b fact (decided.at_most a b (numbers_of a b t))
    fact_narrow (lit.Same a b) fact = λ t. fact_order (lit.Same a b) a b fact (decided.forth a b (numbers_of a b t))
    fact_narrow (lit.Apart a b) fact = tt
    fact_narrow (lit.Flag n held) fact = tt

-- the row of a narrow order is within 128 bits
pub narrow_fits : (u v w : ℕ) (a b : Term) → IsNarrowOrder u v w a b → RowFits a b
narrow_fits u v w a b h = record {
  left = h.left;
  right = h.right;
  coefs = λ x. small_fits ((form_of a).coefs x -ℤ (form_of b).coefs x) (h.coefs x);
  units = small_fits ((form_of b).units -ℤ (form_of a).units) h.units;
}

-- in a narrow condition the rows of facts are narrow
pub narrow_facts : (c : Condition) (fs : List Literal) → IsNarrow c → All (IsFactOf c) fs → AreNarrow fs
narrow_facts c fs narrow all =
    let (u, v, w, uv, vw, symbols) = narrow.symbols in
    (u, v, w, uv, vw, All-weaker (IsFactOf c) (IsNarrowFact u v w) (fact_narrow u v w c symbols narrow.numbers) fs all)

-- and those of its orders are within 128 bits
pub narrow_order_fits : (c : Condition) (n : ℕ) (x y : Term) → IsNarrow c → OrderIn c n x y → RowFits x y
narrow_order_fits c n x y narrow h =
    let (u, v, w, uv, vw, symbols) = narrow.symbols in
    narrow_fits u v w x y (order_narrow u v w c symbols narrow.numbers n h)
