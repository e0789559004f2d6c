-- The steps through two lists of terms.
use Rattle.std.specs.Prelude.{◌≡◌, ◌≢◌, ℕ, ◌+◌, ◌-◌, ◌≤◌, ◌<◌, ℤ, pos, ◌+ℤ◌, ◌*ℤ◌, List, [], ◌∷◌, ◌++◌, length, take, drop, get_or, ◌↔◌, FitsSigned, refl}
use Rattle.std.specs.Int.{w128}
use Rattle.std.proofs.Common.{sym, ap, ◌∙◌, subst, arith, append_assoc}
use Rattle.std.proofs.Math.IntN.{+ℤ_assoc}
use Rattle.std.proofs.lemmas.Int.{ints}
use Rattle.std.proofs.lemmas.Grind.{common_steps}
use Rattle.lin_rows.specs.Terms.{IsAbove, IsNormal, coef_at}
use Rattle.lin_rows.specs.Rows.{MixFits}
use Rattle.lin_rows.specs.Merging.{IsLeast, TakesLeast}
use Rattle.lin_rows.specs.Ring.{+ℤ-none, none-+ℤ, mixed-zeros, mixed-none}
use Rattle.lin_rows.specs.TermLaws.{at_or_not, coef-miss, coef-append, coef-below, coef-first, above_less}

-- a list that isn't empty is its first element before the rest
pub front : (a : List (ℕ × ℤ)) (d : ℕ × ℤ) → 1 ≤ length a → a ≡ get_or a 0 d ∷ take (length a - 1) (drop 1 a)
front [] d le = absurd (omega arith)
front (t ∷ ts) d le = grind (arith, common_steps)

pub no_terms : (a : List (ℕ × ℤ)) → length a < 1 → a ≡ []
no_terms [] lt = refl
no_terms (t ∷ ts) lt = absurd (omega arith)

least_left : (v : ℕ) (x : ℤ) (ls : List (ℕ × ℤ)) → TakesLeast ((v, x) ∷ ls) [] v x (pos 0) ls []
least_left v x ls low p q = record {
  from = p.0;
  lefts = p.2;
  rights = tt;
  left = coef-first v v x ls refl p.2;
  right = refl;
  left_rest = λ w n. coef-miss w v x ls n;
  right_rest = λ w n. refl;
}

least_right : (w : ℕ) (y : ℤ) (rs : List (ℕ × ℤ)) → TakesLeast [] ((w, y) ∷ rs) w (pos 0) y [] rs
least_right w y rs low p q = record {
  from = q.0;
  lefts = tt;
  rights = q.2;
  left = refl;
  right = coef-first w w y rs refl q.2;
  left_rest = λ u n. refl;
  right_rest = λ u n. coef-miss u w y rs n;
}

least_before : (v : ℕ) (x : ℤ) (ls : List (ℕ × ℤ)) (w : ℕ) (y : ℤ) (rs : List (ℕ × ℤ)) → v < w → TakesLeast ((v, x) ∷ ls) ((w, y) ∷ rs) v x (pos 0) ls ((w, y) ∷ rs)
least_before v x ls w y rs lt low p q =
    let rest : IsAbove (v + 1) ((w, y) ∷ rs) = (omega arith, q.1, q.2) in record {
      from = p.0;
      lefts = p.2;
      rights = rest;
      left = coef-first v v x ls refl p.2;
      right = coef-below (v + 1) ((w, y) ∷ rs) v rest (omega arith);
      left_rest = λ u n. coef-miss u v x ls n;
      right_rest = λ u n. refl;
    }

least_after : (v : ℕ) (x : ℤ) (ls : List (ℕ × ℤ)) (w : ℕ) (y : ℤ) (rs : List (ℕ × ℤ)) → w < v → TakesLeast ((v, x) ∷ ls) ((w, y) ∷ rs) w (pos 0) y ((v, x) ∷ ls) rs
least_after v x ls w y rs lt low p q =
    let rest : IsAbove (w + 1) ((v, x) ∷ ls) = (omega arith, p.1, p.2) in record {
      from = q.0;
      lefts = rest;
      rights = q.2;
      left = coef-below (w + 1) ((v, x) ∷ ls) w rest (omega arith);
      right = coef-first w w y rs refl q.2;
      left_rest = λ u n. refl;
      right_rest = λ u n. coef-miss u w y rs n;
    }

least_both : (v : ℕ) (x : ℤ) (ls : List (ℕ × ℤ)) (w : ℕ) (y : ℤ) (rs : List (ℕ × ℤ)) → v ≡ w → TakesLeast ((v, x) ∷ ls) ((w, y) ∷ rs) v x y ls rs
least_both v x ls w y rs e low p q = record {
  from = p.0;
  lefts = p.2;
  rights = above_less (v + 1) (w + 1) rs (omega arith) q.2;
  left = coef-first v v x ls refl p.2;
  right = coef-first v w y rs e q.2;
  left_rest = λ u n. coef-miss u v x ls n;
  right_rest = λ u n. coef-miss u w y rs (λ f. n (f ∙ sym e));
}

-- the same, of lists that are given by their first elements and the rest
pub takes_left : (a ls : List (ℕ × ℤ)) (t : ℕ × ℤ) (b : List (ℕ × ℤ)) → a ≡ t ∷ ls → b ≡ [] → TakesLeast a b t.0 t.1 (pos 0) ls b
takes_left a ls t b e f = rw (e, f) (least_left t.0 t.1 ls)

pub takes_right : (a b rs : List (ℕ × ℤ)) (u : ℕ × ℤ) → a ≡ [] → b ≡ u ∷ rs → TakesLeast a b u.0 (pos 0) u.1 a rs
takes_right a b rs u e f = rw (e, f) (least_right u.0 u.1 rs)

pub takes_before : (a ls : List (ℕ × ℤ)) (t : ℕ × ℤ) (b rs : List (ℕ × ℤ)) (u : ℕ × ℤ) → a ≡ t ∷ ls → b ≡ u ∷ rs → t.0 < u.0 → TakesLeast a b t.0 t.1 (pos 0) ls b
takes_before a ls t b rs u e f lt = rw (e, f) (least_before t.0 t.1 ls u.0 u.1 rs lt)

pub takes_after : (a ls : List (ℕ × ℤ)) (t : ℕ × ℤ) (b rs : List (ℕ × ℤ)) (u : ℕ × ℤ) → a ≡ t ∷ ls → b ≡ u ∷ rs → u.0 < t.0 → TakesLeast a b u.0 (pos 0) u.1 a rs
takes_after a ls t b rs u e f lt = rw (e, f) (least_after t.0 t.1 ls u.0 u.1 rs lt)

pub takes_both : (a ls : List (ℕ × ℤ)) (t : ℕ × ℤ) (b rs : List (ℕ × ℤ)) (u : ℕ × ℤ) → a ≡ t ∷ ls → b ≡ u ∷ rs → t.0 ≡ u.0 → TakesLeast a b t.0 t.1 u.1 ls rs
takes_both a ls t b rs u e f same = rw (e, f) (least_both t.0 t.1 ls u.0 u.1 rs same)

-- the coefficient of the sum
abbrev pub mixed : ℤ → ℤ → List (ℕ × ℤ) → List (ℕ × ℤ) → ℕ → ℤ
mixed k l ls rs v = k *ℤ coef_at ls v +ℤ l *ℤ coef_at rs v

-- the products and sums of every variable are within 128 bits
abbrev pub AllFit : ℤ → ℤ → List (ℕ × ℤ) → List (ℕ × ℤ) → Type 0
AllFit k l ls rs = (v : ℕ) → MixFits k (coef_at ls v) l (coef_at rs v)

-- What is known on the way: what is left lies from `low` on, terms from there on are in order after
-- `out`, `out` and the sum of what is left make up the whole sum, and what is left fits exactly where
-- the whole does.
pub record Mixes (k l : ℤ) (a b : List (ℕ × ℤ)) (low : ℕ) (out ls rs : List (ℕ × ℤ)) : Type 0 where
  pub lefts : IsAbove low ls
  pub rights : IsAbove low rs
  pub in_order : (rest : List (ℕ × ℤ)) → IsAbove low rest → IsNormal (out ++ rest)
  pub coefs : (v : ℕ) → mixed k l a b v ≡ coef_at out v +ℤ mixed k l ls rs v
  pub fits : AllFit k l a b ↔ AllFit k l ls rs

-- at the start nothing is out
pub mixes_first : (k l : ℤ) (a b out ls rs : List (ℕ × ℤ)) → out ≡ [] → ls ≡ a → rs ≡ b → IsNormal a → IsNormal b → Mixes k l a b 0 out ls rs
mixes_first k l a b out ls rs none e f p q =
    rw (none, e, f) (record { lefts = p; rights = q; in_order = λ rest above. above; coefs = λ v. sym (none-+ℤ (pos 0) (mixed k l a b v) refl); fits = (λ h. h, λ h. h) })

mixed-at : (k l : ℤ) (ls rs : List (ℕ × ℤ)) (v : ℕ) (x y : ℤ) → coef_at ls v ≡ x → coef_at rs v ≡ y → mixed k l ls rs v ≡ k *ℤ x +ℤ l *ℤ y
mixed-at k l ls rs v x y p q = ap (λ z. k *ℤ z +ℤ l *ℤ coef_at rs v) p ∙ ap (λ z. k *ℤ x +ℤ l *ℤ z) q

-- the sum of what is left is the term of its least variable and the sum of the rest
mixed-least : (k l : ℤ) (low : ℕ) (ls rs : List (ℕ × ℤ)) (v : ℕ) (x y c : ℤ) (ls' rs' : List (ℕ × ℤ)) → IsLeast low ls rs v x y ls' rs' → c ≡ k *ℤ x +ℤ l *ℤ y → (w : ℕ) → mixed k l ls rs w ≡ coef_at ((v, c) ∷ []) w +ℤ mixed k l ls' rs' w
mixed-least k l low ls rs v x y c ls' rs' f is w = at_or_not w v
    (λ e.
    let below_left : coef_at ls' w ≡ pos 0 = coef-below (v + 1) ls' w f.lefts (omega arith) in
    let below_right : coef_at rs' w ≡ pos 0 = coef-below (v + 1) rs' w f.rights (omega arith) in
    ap (mixed k l ls rs) e ∙ mixed-at k l ls rs v x y f.left f.right ∙ sym is ∙ sym (coef-first w v c [] e tt) ∙ sym (+ℤ-none (coef_at ((v, c) ∷ []) w) (mixed k l ls' rs' w) (mixed-none k l (coef_at ls' w) (coef_at rs' w) below_left below_right)))
    (λ n. mixed-at k l ls rs w (coef_at ls' w) (coef_at rs' w) (f.left_rest w n) (f.right_rest w n) ∙ sym (none-+ℤ (coef_at ((v, c) ∷ []) w) (mixed k l ls' rs' w) (coef-miss w v c [] n)))

fits_nothing : (k l : ℤ) → MixFits k (pos 0) l (pos 0)
fits_nothing k l =
    (subst (λ z. FitsSigned w128 z) (zero_times k) zero_fits, subst (λ z. FitsSigned w128 z) (zero_times l) zero_fits, subst (λ z. FitsSigned w128 z) (sym (mixed-zeros k l)) zero_fits)
  where
    zero_times : (k : ℤ) → pos 0 ≡ k *ℤ pos 0
    zero_times k = omega (arith, ints)

    zero_fits : FitsSigned w128 (pos 0)
    zero_fits = omega (arith, ints)

fits_at : (k l x y x' y' : ℤ) → x ≡ x' → y ≡ y' → MixFits k x l y → MixFits k x' l y'
fits_at k l x y x' y' p q f = subst (λ z. MixFits k x' l z) q (subst (λ z. MixFits k z l y) p f)

-- what is left fits where its least variable and the rest do
fits_rest : (k l : ℤ) (a b : List (ℕ × ℤ)) (low : ℕ) (out ls rs : List (ℕ × ℤ)) (v : ℕ) (x y : ℤ) (ls' rs' : List (ℕ × ℤ)) → IsLeast low ls rs v x y ls' rs' → MixFits k x l y → Mixes k l a b low out ls rs → AllFit k l a b ↔ AllFit k l ls' rs'
fits_rest k l a b low out ls rs v x y ls' rs' f here m = (
  λ all w. at_or_not w v
      (λ e. fits_at k l (pos 0) (pos 0) (coef_at ls' w) (coef_at rs' w) (sym (coef-below (v + 1) ls' w f.lefts (omega arith))) (sym (coef-below (v + 1) rs' w f.rights (omega arith))) (fits_nothing k l))
      (λ n. fits_at k l (coef_at ls w) (coef_at rs w) (coef_at ls' w) (coef_at rs' w) (f.left_rest w n) (f.right_rest w n) (m.fits.0 all w)),
  λ all. m.fits.1 (λ w. at_or_not w v
      (λ e. fits_at k l x y (coef_at ls w) (coef_at rs w) (sym (ap (coef_at ls) e ∙ f.left)) (sym (ap (coef_at rs) e ∙ f.right)) here)
      (λ n. fits_at k l (coef_at ls' w) (coef_at rs' w) (coef_at ls w) (coef_at rs w) (sym (f.left_rest w n)) (sym (f.right_rest w n)) (all w))),
)

-- a term whose coefficient isn't 0 is in order after those that are out
pub mixes_in_order : (k l : ℤ) (a b : List (ℕ × ℤ)) (low : ℕ) (out ls rs : List (ℕ × ℤ)) (v : ℕ) (x y c : ℤ) (ls' rs' : List (ℕ × ℤ)) → TakesLeast ls rs v x y ls' rs' → c ≢ pos 0 → Mixes k l a b low out ls rs → IsNormal (out ++ (v, c) ∷ [])
mixes_in_order k l a b low out ls rs v x y c ls' rs' least some m =
    let f = least low m.lefts m.rights in
    m.in_order ((v, c) ∷ []) (f.from, some, tt)

-- that term is put out
pub mixes_one : (k l : ℤ) (a b : List (ℕ × ℤ)) (low : ℕ) (out ls rs : List (ℕ × ℤ)) (v : ℕ) (x y c : ℤ) (ls' rs' out' : List (ℕ × ℤ)) → TakesLeast ls rs v x y ls' rs' → MixFits k x l y → c ≡ k *ℤ x +ℤ l *ℤ y → c ≢ pos 0 → out' ≡ out ++ (v, c) ∷ [] → Mixes k l a b low out ls rs → Mixes k l a b (v + 1) out' ls' rs'
mixes_one k l a b low out ls rs v x y c ls' rs' out' least here is some grown m =
    let f = least low m.lefts m.rights in record {
      lefts = f.lefts;
      rights = f.rights;
      in_order = λ rest above. subst (λ z. IsNormal z) (sym (ap (λ z. z ++ rest) grown ∙ append_assoc out ((v, c) ∷ []) rest)) (m.in_order ((v, c) ∷ rest) (f.from, some, above));
      coefs = λ w. m.coefs w ∙ ap (λ z. coef_at out w +ℤ z) (mixed-least k l low ls rs v x y c ls' rs' f is w) ∙ sym (+ℤ_assoc (coef_at out w) (coef_at ((v, c) ∷ []) w) (mixed k l ls' rs' w)) ∙ ap (λ z. z +ℤ mixed k l ls' rs' w) (sym (ap (λ z. coef_at z w) grown ∙ coef-append out ((v, c) ∷ []) w));
      fits = fits_rest k l a b low out ls rs v x y ls' rs' f here m;
    }

-- no term is put out where the coefficient is 0
pub mixes_none : (k l : ℤ) (a b : List (ℕ × ℤ)) (low : ℕ) (out ls rs : List (ℕ × ℤ)) (v : ℕ) (x y : ℤ) (ls' rs' : List (ℕ × ℤ)) → TakesLeast ls rs v x y ls' rs' → MixFits k x l y → pos 0 ≡ k *ℤ x +ℤ l *ℤ y → Mixes k l a b low out ls rs → Mixes k l a b (v + 1) out ls' rs'
mixes_none k l a b low out ls rs v x y ls' rs' least here is m =
    let f = least low m.lefts m.rights in
    let le : low ≤ v = f.from in record {
      lefts = f.lefts;
      rights = f.rights;
      in_order = λ rest above. m.in_order rest (above_less low (v + 1) rest (omega arith) above);
      coefs = λ w. m.coefs w ∙ ap (λ z. coef_at out w +ℤ z) (mixed-least k l low ls rs v x y (pos 0) ls' rs' f is w ∙ none-+ℤ (coef_at ((v, pos 0) ∷ []) w) (mixed k l ls' rs' w) (no_term v w));
      fits = fits_rest k l a b low out ls rs v x y ls' rs' f here m;
    }
  where
    no_term : (v w : ℕ) → coef_at ((v, pos 0) ∷ []) w ≡ pos 0
    no_term v w = at_or_not w v (λ e. coef-first w v (pos 0) [] e tt) (λ n. coef-miss w v (pos 0) [] n)

-- where the least variable's numbers don't fit, nor do all
pub mixes_wide : (k l : ℤ) (a b : List (ℕ × ℤ)) (low : ℕ) (out ls rs : List (ℕ × ℤ)) (v : ℕ) (x y : ℤ) (ls' rs' : List (ℕ × ℤ)) → TakesLeast ls rs v x y ls' rs' → ¬ (MixFits k x l y) → Mixes k l a b low out ls rs → ¬ (AllFit k l a b)
mixes_wide k l a b low out ls rs v x y ls' rs' least wide m all =
    let f = least low m.lefts m.rights in
    wide (fits_at k l (coef_at ls v) (coef_at rs v) x y f.left f.right (m.fits.0 all v))

-- at the end the sum is out
pub mixes_last : (k l : ℤ) (a b : List (ℕ × ℤ)) (low : ℕ) (out ls rs : List (ℕ × ℤ)) → ls ≡ [] → rs ≡ [] → Mixes k l a b low out ls rs → (v : ℕ) → coef_at out v ≡ mixed k l a b v
mixes_last k l a b low out ls rs p q m v =
    sym (m.coefs v ∙ +ℤ-none (coef_at out v) (mixed k l ls rs v) (mixed-none k l (coef_at ls v) (coef_at rs v) (ap (λ z. coef_at z v) p) (ap (λ z. coef_at z v) q)))

-- and all of it fits
pub mixes_fit : (k l : ℤ) (a b : List (ℕ × ℤ)) (low : ℕ) (out ls rs : List (ℕ × ℤ)) → ls ≡ [] → rs ≡ [] → Mixes k l a b low out ls rs → AllFit k l a b
mixes_fit k l a b low out ls rs p q m =
    m.fits.1 (λ v. fits_at k l (pos 0) (pos 0) (coef_at ls v) (coef_at rs v) (sym (ap (λ z. coef_at z v) p)) (sym (ap (λ z. coef_at z v) q)) (fits_nothing k l))
