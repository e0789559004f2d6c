-- Each assumption has rows: whether the numbers of one fit can be told, and where they do there is one.
use Rattle.std.specs.Prelude.{◌≡◌, ◌≢◌, ℕ, zero, suc, ◌+◌, ◌^◌, ◌<◌, ◌≤◌, ◌⊎◌, Bool, true, false, ◌&&◌, ℤ, pos, negsuc, ◌+ℤ◌, ◌-ℤ◌, List, [], ◌∷◌, All, Option, Some, None, FitsSigned}
use Rattle.std.specs.Int.{w128}
use Rattle.std.proofs.Common.{refl, sym, ap, subst, ◌∙◌, inl, inr, ⊎_elim, arith}
use Rattle.std.proofs.lemmas.Bool.{cases_lt}
use Rattle.std.proofs.lemmas.Int.{ints}
use Rattle.std.proofs.lemmas.List.Elements.{All-nil, All-cons, All-head, All-tail}
use lib.Signed.{mag}
use mir.Val.{hbits}
use Rattle.lin_rows.specs.declared.Row.{Row}
use Rattle.lin_rows.specs.Terms.{IsAbove, coef_at}
use Rattle.lin_rows.specs.TermLaws.{at_or_not, coef-hit, coef-miss, coef-below, above_less}
use Rattle.lin_rows.specs.Ring.{+ℤ-none, none-+ℤ}
use Rattle.terms.specs.declared.Term.{Term}
use Rattle.terms.specs.declared.Literal.{Literal}
use Rattle.terms.specs.declared.Literal.TheVariants as lit
use Rattle.terms.specs.Sorts.{of_numbers}
use Rattle.terms.specs.Meanings.{Valued, number_at}
use Rattle.terms.specs.Forms.{Form, FormFits, AllFormsFit, form_of}
use Rattle.terms.specs.FormLaws.{Gives, has_form}
use Rattle.terms.specs.Within.{terms_within}
use Rattle.proof_checker.specs.Rows.{RowFits, IsRow, IsRowWhereFits, IsRowIf, AreRows, AreAllRows}

-- ---- what can be told
abbrev Told : Type 0 → Type 0
Told P = P ⊎ ¬ P

both_told : {P Q : Type 0} → Told P → Told Q → Told (P × Q)
both_told (inl p) (inl q) = inl (p, q)
both_told (inl p) (inr n) = inr (λ h. n h.1)
both_told (inr n) q = inr (λ h. n h.0)

told_by : {P Q : Type 0} → (P → Q) → (Q → P) → Told P → Told Q
told_by f g (inl p) = inl (f p)
told_by f g (inr n) = inr (λ q. n (g q))

told_below : (P : ℕ → Type 0) → ((v : ℕ) → Told (P v)) → (n : ℕ) → Told ((v : ℕ) → v < n → P v)
told_below P told zero = inl (λ v lt. absurd (omega arith))
told_below P told (suc n) = told_by {P = P n × ((v : ℕ) → v < n → P v)} (λ h v lt. joined n v h.0 h.1 lt) (λ h. (h n (omega arith), λ v lt. h v (omega arith))) (both_told (told n) (told_below P told n))
  where
    joined : (n v : ℕ) → P n → ((w : ℕ) → w < n → P w) → v < suc n → P v
    joined n v h k lt = ⊎_elim (λ (less : v < n). k v less) (λ (le : n ≤ v). subst P (same n v le lt) h) (cases_lt v n)
      where
        same : (n v : ℕ) → n ≤ v → v < suc n → n ≡ v
        same n v le lt = omega arith

told_all : {X : Type 0} (P : X → Type 0) → ((x : X) → Told (P x)) → (xs : List X) → Told (All P xs)
told_all P told [] = inl (All-nil P)
told_all P told (x ∷ xs) = told_by {P = P x × All P xs} (λ h. All-cons P x xs h.0 h.1) (λ h. (All-head P x xs h, All-tail P x xs h)) (both_told (told x) (told_all P told xs))

fits_told : (z : ℤ) → Told (FitsSigned w128 z)
fits_told z = ⊎_elim (λ (less : mag z < 2 ^ hbits w128). inl (record { sfits = less })) (λ (le : 2 ^ hbits w128 ≤ mag z). inr (λ f. wide (mag z) (2 ^ hbits w128) le f.sfits)) (cases_lt (mag z) (2 ^ hbits w128))
  where
    wide : (m n : ℕ) → n ≤ m → m < n → ⊥
    wide m n le lt = omega arith

zero_fits : (z : ℤ) → z ≡ pos 0 → FitsSigned w128 z
zero_fits z e = subst (λ y. FitsSigned w128 y) (sym e) (omega (arith, ints))

-- ---- variables without a coefficient
-- from `n` on the function is 0
abbrev IsBounded : ℕ → (ℕ → ℤ) → Type 0
IsBounded n f = (v : ℕ) → n ≤ v → f v ≡ pos 0

past : List (ℕ × ℤ) → ℕ
past [] = 0
past (t ∷ ts) = t.0 + 1 + past ts

coef-past : (ts : List (ℕ × ℤ)) (v : ℕ) → past ts ≤ v → coef_at ts v ≡ pos 0
unfolding past
coef-past [] v le = refl
coef-past (t ∷ ts) v le = coef-miss v t.0 t.1 ts (λ e. omega arith) ∙ coef-past ts v (omega arith)

abbrev nothing : Valued
nothing = record { unit = pos 1; numbers = λ v. pos 0; references = λ n. 0; flags = λ n. false }

bounded_by : (f : Form) (z : ℤ) → Gives nothing f z → (n : ℕ) × IsBounded n f.coefs
bounded_by f z g = (past g.terms, λ v le. sym (g.coefs v) ∙ coef-past g.terms v le)

bounded : (t : Term) → (n : ℕ) × IsBounded n (form_of t).coefs
bounded t = bounded_by (form_of t) (number_at nothing t) (has_form nothing t)

less_bounded : (f g : ℕ → ℤ) → (n : ℕ) × IsBounded n f → (n : ℕ) × IsBounded n g → (n : ℕ) × IsBounded n (λ v. f v -ℤ g v)
less_bounded f g (m, p) (n, q) = (m + n, λ v le. none (f v) (g v) (p v (omega arith)) (q v (omega arith)))
  where
    none : (x y : ℤ) → x ≡ pos 0 → y ≡ pos 0 → x -ℤ y ≡ pos 0
    none x y e h = omega (arith, ints)

fit_told : (f : ℕ → ℤ) → (n : ℕ) × IsBounded n f → Told ((v : ℕ) → FitsSigned w128 (f v))
fit_told f (n, none) = told_by {P = (v : ℕ) → v < n → FitsSigned w128 (f v)} (λ h v. ⊎_elim (λ (less : v < n). h v less) (λ (le : n ≤ v). zero_fits (f v) (none v le)) (cases_lt v n)) (λ h v lt. h v) (told_below (λ v. FitsSigned w128 (f v)) (λ v. fits_told (f v)) n)

abbrev AllFit : (ℕ → ℤ) → Type 0
AllFit f = (v : ℕ) → FitsSigned w128 (f v)

form_fits_told : (f : Form) → (n : ℕ) × IsBounded n f.coefs → Told (FormFits f)
form_fits_told f b =
    told_by {P = AllFit f.coefs × FitsSigned w128 f.units} {Q = FormFits f} (λ h. record { coefs = h.0; units = h.1 }) (λ h. (h.coefs, h.units)) (both_told (fit_told f.coefs b) (fits_told f.units))

form_told : (t : Term) → Told (FormFits (form_of t))
form_told t = form_fits_told (form_of t) (bounded t)

forms_told : (t : Term) → Told (AllFormsFit t)
forms_told t = told_by {P = All (λ u. FormFits (form_of u)) (terms_within t)} {Q = AllFormsFit t} (λ h. record { within = h }) (λ h. h.within) (told_all (λ u. FormFits (form_of u)) form_told (terms_within t))

abbrev Difference : Term → Term → ℕ → ℤ
Difference a b v = (form_of a).coefs v -ℤ (form_of b).coefs v

units_less : Term → Term → ℤ
units_less a b = (form_of b).units -ℤ (form_of a).units

row_told : (a b : Term) → Told (RowFits a b)
unfolding units_less
row_told a b =
    told_by {P = (AllFormsFit a × AllFormsFit b) × (AllFit (Difference a b) × FitsSigned w128 (units_less a b))} {Q = RowFits a b} (λ h. record { left = h.0.0; right = h.0.1; coefs = h.1.0; units = h.1.1 }) (λ h. ((h.left, h.right), (h.coefs, h.units)))
    (both_told (both_told (forms_told a) (forms_told b)) (both_told (fit_told (Difference a b) (less_bounded (form_of a).coefs (form_of b).coefs (bounded a) (bounded b))) (fits_told (units_less a b))))

-- ---- the terms with given coefficients
with_term : ℕ → ℤ → List (ℕ × ℤ) → List (ℕ × ℤ)
with_term v (pos zero) ts = ts
with_term v (pos (suc m)) ts = (v, pos (suc m)) ∷ ts
with_term v (negsuc m) ts = (v, negsuc m) ∷ ts

with-above : (v : ℕ) (x : ℤ) (ts : List (ℕ × ℤ)) → IsAbove (v + 1) ts → IsAbove v (with_term v x ts)
unfolding with_term
with-above v (pos zero) ts h = above_less v (v + 1) ts (omega arith) h
with-above v (pos (suc m)) ts h = (omega arith, (λ e. some m e), h)
  where
    some : (m : ℕ) → pos (suc m) ≡ pos 0 → ⊥
    some m e = omega (arith, ints)
with-above v (negsuc m) ts h = (omega arith, (λ e. some m e), h)
  where
    some : (m : ℕ) → negsuc m ≡ pos 0 → ⊥
    some m e = omega (arith, ints)

with-hit : (v w : ℕ) (x : ℤ) (ts : List (ℕ × ℤ)) → w ≡ v → coef_at (with_term v x ts) w ≡ x +ℤ coef_at ts w
unfolding with_term
with-hit v w (pos zero) ts e = sym (none-+ℤ (pos zero) (coef_at ts w) refl)
with-hit v w (pos (suc m)) ts e = coef-hit w v (pos (suc m)) ts e
with-hit v w (negsuc m) ts e = coef-hit w v (negsuc m) ts e

with-miss : (v w : ℕ) (x : ℤ) (ts : List (ℕ × ℤ)) → w ≢ v → coef_at (with_term v x ts) w ≡ coef_at ts w
unfolding with_term
with-miss v w (pos zero) ts n = refl
with-miss v w (pos (suc m)) ts n = coef-miss w v (pos (suc m)) ts n
with-miss v w (negsuc m) ts n = coef-miss w v (negsuc m) ts n

-- those of `n` variables, `start` the first of them
rising : ℕ → ℕ → (ℕ → ℤ) → List (ℕ × ℤ)
rising start zero f = []
rising start (suc n) f = with_term start (f start) (rising (start + 1) n f)

rising-above : (start n : ℕ) (f : ℕ → ℤ) → IsAbove start (rising start n f)
unfolding rising
rising-above start zero f = tt
rising-above start (suc n) f = with-above start (f start) (rising (start + 1) n f) (rising-above (start + 1) n f)

coef-rising : (start n : ℕ) (f : ℕ → ℤ) (v : ℕ) → start ≤ v → (start + n ≤ v → f v ≡ pos 0) → coef_at (rising start n f) v ≡ f v
unfolding rising
coef-rising start zero f v le none = sym (none (omega arith))
coef-rising start (suc n) f v le none = at_or_not v start
    (λ e. with-hit start v (f start) (rising (start + 1) n f) e ∙ +ℤ-none (f start) (coef_at (rising (start + 1) n f) v) (coef-below (start + 1) (rising (start + 1) n f) v (rising-above (start + 1) n f) (omega arith)) ∙ ap f (sym e))
    (λ other. with-miss start v (f start) (rising (start + 1) n f) other ∙ coef-rising (start + 1) n f v (greater start v le other) (λ past. none (omega arith)))
  where
    greater : (start v : ℕ) → start ≤ v → v ≢ start → start + 1 ≤ v
    greater start v le other = omega arith

-- ---- rows
one_row : (a b : Term) → RowFits a b → (r : Row) × IsRow a b r
one_row a b fits = made (λ v. (form_of a).coefs v -ℤ (form_of b).coefs v) (less_bounded (form_of a).coefs (form_of b).coefs (bounded a) (bounded b)) (λ v. refl)
  where
    made : (f : ℕ → ℤ) → (n : ℕ) × IsBounded n f → ((v : ℕ) → f v ≡ (form_of a).coefs v -ℤ (form_of b).coefs v) → (r : Row) × IsRow a b r
    made f (n, none) same = (
      record { coefs = rising 0 n f; bound = (form_of b).units -ℤ (form_of a).units },
      record {
        fits = fits;
        normal = rising-above 0 n f;
        coefs = λ v. coef-rising 0 n f v (omega arith) (λ le. none v (omega arith)) ∙ same v;
        bound = refl;
      },
    )

row_where_fits : (a b : Term) → (r : Option Row) × IsRowWhereFits a b r
row_where_fits a b = by_test (row_told a b)
  where
    by_test : Told (RowFits a b) → (r : Option Row) × IsRowWhereFits a b r
    by_test (inl fits) = let (r, is) = one_row a b fits in (Some r, is)
    by_test (inr not_) = (None, not_)

row_if : (t : Bool) (a b : Term) → (r : Option Row) × IsRowIf t a b r
row_if true a b = row_where_fits a b
row_if false a b = (None, refl)

two_rows : (l : Literal) → (r : Option Row) × (s : Option Row) × AreRows l r s
two_rows (lit.AtMost a b) = let (r, is) = row_if (of_numbers a && of_numbers b) a b in (r, None, (is, refl))
two_rows (lit.Same a b) =
    let (r, is) = row_if (of_numbers a && of_numbers b) a b in
    let (s, back) = row_if (of_numbers a && of_numbers b) b a in
    (r, s, (is, back))
two_rows (lit.Apart a b) = (None, None, (refl, refl))
two_rows (lit.Flag n held) = (None, None, (refl, refl))

-- the rows of assumptions
pub rows_exist : (fs : List Literal) → (rows : List (Option Row)) × AreAllRows fs rows
rows_exist [] = ([], tt)
rows_exist (l ∷ fs) =
    let (r, s, are) = two_rows l in
    let (rows, all) = rows_exist fs in
    (r ∷ s ∷ rows, (are, all))
