-- The rows of narrow facts are narrow.
use Rattle.std.specs.Prelude.{◌≡◌, ◌≢◌, ℕ, ◌≤◌, ◌<◌, ◌^◌, ◌⊎◌, Bool, true, false, ◌&&◌, IsTrue, ℤ, pos, ◌-ℤ◌, unsigned_abs, List, [], ◌∷◌, All, Option, Some, None, Result, Err, MatchResult}
use Rattle.std.proofs.Common.{refl, sym, subst, ◌∙◌, inl, inr, arith}
use Rattle.std.proofs.lemmas.Int.{ints}
use Rattle.std.proofs.lemmas.List.Elements.{All-nil, All-cons, All-head, All-tail, All-contains, All-weaker}
use Rattle.lin_rows.specs.declared.Row.{Row}
use Rattle.lin_rows.specs.Terms.{coef_at}
use Rattle.lin_solver.specs.Narrow as solver
use Rattle.terms.specs.declared.Term.{Term}
use Rattle.terms.specs.declared.Literal.{Literal}
use Rattle.terms.specs.declared.Literal.TheVariants as lit
use Rattle.terms.specs.Sorts.{of_numbers}
use Rattle.terms.specs.Forms.{form_of}
use Rattle.proof_checker.specs.Rows.{IsRow}
use Rattle.cond_facts.specs.FactRows.{HasWideRow, IsWideAt, IsThereIf, AreThere, AreAllThere, present, AreRead}
use Rattle.cond_facts.specs.Outcomes.{IsNarrowOrder, IsNarrowFact, AreNarrow}
use Rattle.cond_facts.proofs.Fitted.{member_at}
use Rattle.cond_facts.proofs.FactLaws.{narrow_fits}

turned_size : (x y : ℤ) (m : ℕ) → unsigned_abs (x -ℤ y) ≤ m → unsigned_abs (y -ℤ x) ≤ m
turned_size x y m h = omega (arith, ints, h)

turned_zero : (x y : ℤ) → x -ℤ y ≡ pos 0 → y -ℤ x ≡ pos 0
turned_zero x y e = omega (arith, ints, e)

same_size : (x y : ℤ) (m : ℕ) → y ≡ x → unsigned_abs x ≤ m → unsigned_abs y ≤ m
same_size x y m e h = subst (λ z. unsigned_abs z ≤ m) (sym e) h

module _ (u v w : ℕ) where
  turned : (a b : Term) → IsNarrowOrder u v w a b → IsNarrowOrder u v w b a
  turned a b h = record {
    left = h.right;
    right = h.left;
    coefs = λ x. turned_size ((form_of a).coefs x) ((form_of b).coefs x) (2 ^ 11) (h.coefs x);
    units = turned_size (form_of b).units (form_of a).units (2 ^ 11) h.units;
    variables = λ x some. h.variables x (λ e. some (turned_zero ((form_of a).coefs x) ((form_of b).coefs x) e));
  }

  -- no number of the row is above 2 ^ 11, and it has none but the three variables
  record IsNarrowRow (r : Row) : Type 0 where
    pub numbers : solver.IsWithin (2 ^ 11) r
    pub variables : (x : ℕ) → coef_at r.coefs x ≢ pos 0 → (x ≡ u) ⊎ ((x ≡ v) ⊎ (x ≡ w))

  row_narrow : (a b : Term) (r : Row) → IsNarrowOrder u v w a b → IsRow a b r → IsNarrowRow r
  row_narrow a b r h is = record {
    numbers = record {
      coefs = λ x. same_size ((form_of a).coefs x -ℤ (form_of b).coefs x) (coef_at r.coefs x) (2 ^ 11) (is.coefs x) (h.coefs x);
      bound = same_size ((form_of b).units -ℤ (form_of a).units) r.bound (2 ^ 11) is.bound h.units;
    };
    variables = λ x some. h.variables x (λ e. some (is.coefs x ∙ e));
  }

  with_row : (t : Bool) (a b : Term) (r : Option Row) (rows : List (Option Row)) → (IsTrue t → IsNarrowOrder u v w a b) → IsThereIf t a b r → All IsNarrowRow (present rows) → All IsNarrowRow (present (r ∷ rows))
  with_row true a b (Some r) rows order is all =
      All-cons IsNarrowRow r (present rows) (row_narrow a b r (order refl) is) all
  with_row true a b None rows order is all = absurd is
  with_row false a b r rows order is all = subst (λ o. All IsNarrowRow (present (o ∷ rows))) (sym is) all

  without : (r : Option Row) (rows : List (Option Row)) → r ≡ None → All IsNarrowRow (present rows) → All IsNarrowRow (present (r ∷ rows))
  without r rows e all = subst (λ o. All IsNarrowRow (present (o ∷ rows))) (sym e) all

  fact_rows : (l : Literal) (r s : Option Row) (rows : List (Option Row)) → IsNarrowFact u v w l → AreThere l r s → All IsNarrowRow (present rows) → All IsNarrowRow (present (r ∷ s ∷ rows))
  fact_rows (lit.AtMost a b) r s rows narrow (is, none) all =
      with_row (of_numbers a && of_numbers b) a b r (s ∷ rows) narrow is (without s rows none all)
  fact_rows (lit.Same a b) r s rows narrow (is, back) all =
      with_row (of_numbers a && of_numbers b) a b r (s ∷ rows) narrow is (with_row (of_numbers a && of_numbers b) b a s rows (λ t. turned a b (narrow t)) back all)
  fact_rows (lit.Apart a b) r s rows narrow (is, none) all = without r (s ∷ rows) is (without s rows none all)
  fact_rows (lit.Flag n held) r s rows narrow (is, none) all = without r (s ∷ rows) is (without s rows none all)

  all_narrow : (fs : List Literal) (rows : List (Option Row)) → All (IsNarrowFact u v w) fs → AreAllThere fs rows → All IsNarrowRow (present rows)
  all_narrow [] [] all are = All-nil IsNarrowRow
  all_narrow [] (r ∷ rows) all are = absurd are
  all_narrow (l ∷ fs) [] all are = absurd are
  all_narrow (l ∷ fs) (r ∷ []) all are = absurd are
  all_narrow (l ∷ fs) (r ∷ s ∷ rows) all are =
      fact_rows l r s rows (All-head (IsNarrowFact u v w) l fs all) are.0 (all_narrow fs rows (All-tail (IsNarrowFact u v w) l fs all) are.1)

  not_wide : (l : Literal) → IsNarrowFact u v w l → HasWideRow l → ⊥
  not_wide (lit.AtMost a b) narrow (t, wide) = wide (narrow_fits u v w a b (narrow t))
  not_wide (lit.Same a b) narrow (t, inl wide) = wide (narrow_fits u v w a b (narrow t))
  not_wide (lit.Same a b) narrow (t, inr wide) = wide (narrow_fits u v w b a (turned a b (narrow t)))
  not_wide (lit.Apart a b) narrow h = h
  not_wide (lit.Flag n held) narrow h = h

  are_narrow : (rows : List Row) → u < v → v < w → All IsNarrowRow rows → solver.IsNarrow rows
  are_narrow rows uv vw all = record {
    variables = (u, v, w, uv, vw, λ x occurs. let (r, there, some) = occurs in (All-contains IsNarrowRow rows r all there).variables x some);
    numbers = All-weaker IsNarrowRow (solver.IsWithin (2 ^ 11)) (λ r h. h.numbers) rows all;
  }

pub rows_narrow : (fs : List Literal) (rows : List Row) (numbers : List ℕ) → AreRead fs rows numbers → AreNarrow fs → solver.IsNarrow rows
rows_narrow fs rows numbers read (u, v, w, uv, vw, all) =
    subst solver.IsNarrow (sym read.rows_are) (are_narrow u v w (present read.all) uv vw (all_narrow u v w fs read.all all read.are))

-- no row of a narrow fact is outside 128 bits
none_wide : (fs : List Literal) (i : ℕ) → AreNarrow fs → IsWideAt fs i → ⊥
none_wide fs i (u, v, w, uv, vw, all) (l, at, wide) =
    not_wide u v w l (All-contains (IsNarrowFact u v w) fs l all (member_at fs i l at)) wide

pub none_told : {X : Type 0} (P : X → Type 0) (r : Result X ℕ) (fs : List Literal) (i : ℕ) → r ≡ Err i → MatchResult r P (IsWideAt fs) → AreNarrow fs → ⊥
none_told P r fs i e told narrow =
    none_wide fs i narrow (subst (λ q. MatchResult q P (IsWideAt fs)) e told)
