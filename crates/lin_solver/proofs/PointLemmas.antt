-- Laws of points with one variable more.
use Rattle.std.specs.Prelude.{◌≡◌, ◌≢◌, ℕ, zero, suc, ◌+◌, ◌*◌, ◌≤◌, ◌<◌, eqb, true, false, ℤ, pos, ◌*ℤ◌, ◌≤ℤ◌, unsigned_abs, List, [], ◌∷◌, ◌++◌, map, length, get_or, All, AllPairs, Contains, refl}
use Rattle.std.specs.Int.{◌∣◌}
use Rattle.std.proofs.Common.{sym, ap, ◌∙◌, subst, arith}
use Rattle.std.proofs.lemmas.Int.{ints, unsigned_abs-mul}
use Rattle.std.proofs.lemmas.Bool.Decides.{nat_tests}
use Rattle.std.proofs.lemmas.List.Elements.{All-cons, All-head, All-tail, All-weaker, All-push, All-map, Contains-push, Contains-append_left}
use Rattle.std.proofs.lemmas.List.Quantifiers.{all_pairs_push}
use Rattle.lin_rows.specs.declared.row.Row.{Row}
use Rattle.lin_rows.specs.declared.point.Point.{Point}
use Rattle.lin_rows.specs.Derived.{Occurs}
use Rattle.lin_rows.specs.Points.{valuation, HasNoDivisor, Lists}
use Rattle.lin_rows.specs.LowestLaws.{AreCoprime}
use Rattle.lin_rows.specs.TermLaws.{at_or_not}
use Rattle.lin_solver.specs.WayBack.{scaled, extension}
use Rattle.lin_solver.proofs.DivisorLemmas.{divides_scale}

pub val_hit : (w v : ℕ) (z : ℤ) (ts : List (ℕ × ℤ)) → w ≡ v → valuation ((v, z) ∷ ts) w ≡ z
val_hit w v z ts e = let b : eqb w v ≡ true = grind (arith, nat_tests) in rw b refl

pub val_miss : (w v : ℕ) (z : ℤ) (ts : List (ℕ × ℤ)) → w ≢ v → valuation ((v, z) ∷ ts) w ≡ valuation ts w
val_miss w v z ts n = let b : eqb w v ≡ false = grind (arith, nat_tests) in rw b refl

-- the other values are `s` times as large
pub value_other : (ts : List (ℕ × ℤ)) (s z : ℤ) (v w : ℕ) → w ≢ v → valuation (scaled s ts ++ (v, z) ∷ []) w ≡ valuation ts w *ℤ s
value_other [] s z v w n = val_miss w v z [] n ∙ none s
  where
    none : (s : ℤ) → pos 0 ≡ pos 0 *ℤ s
    none s = omega (arith, ints)
value_other (t ∷ ts) s z v w n = at_or_not w t.0
    (λ e. val_hit w t.0 (t.1 *ℤ s) (scaled s ts ++ (v, z) ∷ []) e ∙ ap (λ k. k *ℤ s) (sym (val_hit w t.0 t.1 ts e)))
    (λ m. val_miss w t.0 (t.1 *ℤ s) (scaled s ts ++ (v, z) ∷ []) m ∙ value_other ts s z v w n ∙ ap (λ k. k *ℤ s) (sym (val_miss w t.0 t.1 ts m)))

-- the new one
pub value_new : (ts : List (ℕ × ℤ)) (s z : ℤ) (v : ℕ) → All (λ t. v ≢ t.0) ts → valuation (scaled s ts ++ (v, z) ∷ []) v ≡ z
value_new [] s z v none = val_hit v v z [] refl
value_new (t ∷ ts) s z v none =
    val_miss v t.0 (t.1 *ℤ s) (scaled s ts ++ (v, z) ∷ []) (All-head (λ t. v ≢ t.0) t ts none) ∙ value_new ts s z v (All-tail (λ t. v ≢ t.0) t ts none)

-- the variables that are listed
listed_more : (ts : List (ℕ × ℤ)) (s z : ℤ) (v : ℕ) → map (λ t. t.0) (scaled s ts ++ (v, z) ∷ []) ≡ map (λ t. t.0) ts ++ v ∷ []
listed_more [] s z v = refl
listed_more (t ∷ ts) s z v = ap (λ us. t.0 ∷ us) (listed_more ts s z v)

first_same : (ts : List (ℕ × ℤ)) (s : ℤ) (i : ℕ) (d : ℕ × ℤ) → (get_or (scaled s ts) i d).0 ≡ (get_or ts i d).0
first_same [] s i d = refl
first_same (t ∷ ts) s zero d = refl
first_same (t ∷ ts) s (suc i) d = first_same ts s i d

scaled_length : (ts : List (ℕ × ℤ)) (s : ℤ) → length (scaled s ts) ≡ length ts
scaled_length [] s = refl
scaled_length (t ∷ ts) s = ap suc (scaled_length ts s)

pairs_scaled : (ts : List (ℕ × ℤ)) (s : ℤ) → AllPairs (λ t u. t.0 ≢ u.0) ts → AllPairs (λ t u. t.0 ≢ u.0) (scaled s ts)
pairs_scaled ts s apart i j d lt within e =
    apart i j d lt (subst (λ n. j < n) (scaled_length ts s) within) (sym (first_same ts s i d) ∙ e ∙ first_same ts s j d)

-- the variables after one, and that one
pub lists_extension : (rows : List Row) (p : Point) (s z : ℤ) (v : ℕ) → Occurs rows v → Lists p (λ u. (v + 1 ≤ u) × Occurs rows u) → Lists (extension p s v z) (λ u. (v ≤ u) × Occurs rows u)
lists_extension rows p s z v occurs lists = record {
  listed = λ u is. subst (λ us. Contains us u) (sym (listed_more p.values s z v)) (at_or_not u v
      (λ e. subst (λ w. Contains (map (λ t. t.0) p.values ++ v ∷ []) w) (sym e) (Contains-push (map (λ t. t.0) p.values) v))
      (λ n. Contains-append_left (map (λ t. t.0) p.values) (v ∷ []) u (lists.listed u (less v u is.0 n, is.1))));
  no_other = All-push (λ t. (v ≤ t.0) × Occurs rows t.0) (scaled s p.values) (v, z)
      (All-map (λ t. (v ≤ t.0) × Occurs rows t.0) (λ t. (t.0, t.1 *ℤ s)) p.values (All-weaker (λ t. (v + 1 ≤ t.0) × Occurs rows t.0) (λ t. (v ≤ t.0) × Occurs rows t.0) (λ t h. (up_one v t.0 h.0, h.1)) p.values lists.no_other))
      (same v, occurs);
  once = all_pairs_push (λ t u. t.0 ≢ u.0) (scaled s p.values) (v, z) (pairs_scaled p.values s lists.once)
      (λ k d lt e. above v (get_or p.values k d).0 (lists.no_other k d (subst (λ n. k < n) (scaled_length p.values s) lt)).0 (sym (first_same p.values s k d) ∙ e));
}
  where
    less : (v u : ℕ) → v ≤ u → u ≢ v → v + 1 ≤ u
    less v u le n = omega arith

    up_one : (v u : ℕ) → v + 1 ≤ u → v ≤ u
    up_one v u le = omega arith

    same : (v : ℕ) → v ≤ v
    same v = omega arith

    above : (v u : ℕ) → v + 1 ≤ u → u ≢ v
    above v u le e = omega arith

-- the unit and the values have no common divisor
pub reduced_extension : (p : Point) (s z : ℤ) (v : ℕ) → pos 1 ≤ℤ s → AreCoprime (unsigned_abs s) (unsigned_abs z) → HasNoDivisor (unsigned_abs p.q) p.values → HasNoDivisor (unsigned_abs (p.q *ℤ s)) (scaled s p.values ++ (v, z) ∷ [])
reduced_extension p s z v some coprime none d unit each =
    at_or_not d 0
    (λ e. omega arith)
    (λ n.
    let size : 0 < unsigned_abs s = positive s some in
    let front = all_front (scaled s p.values) ((v, z) ∷ []) (λ t. d ∣ unsigned_abs t.1) each in
    let values = unmapped p.values (λ t. d ∣ unsigned_abs t.1) front in
    let spread = All-weaker (λ t. d ∣ unsigned_abs (t.1 *ℤ s)) (λ t. d ∣ unsigned_abs t.1 * unsigned_abs s) (λ t h. subst (λ m. d ∣ m) (unsigned_abs-mul t.1 s) h) p.values values in
    let at_scale = divides_scale d (unsigned_abs s) (unsigned_abs p.q) p.values size none (subst (λ m. d ∣ m) (unsigned_abs-mul p.q s) unit) spread (omega arith) in
    coprime d at_scale (last_one (scaled s p.values) (v, z) (λ t. d ∣ unsigned_abs t.1) each))
  where
    positive : (s : ℤ) → pos 1 ≤ℤ s → 0 < unsigned_abs s
    positive s h = omega (arith, ints)

    all_front : (xs ys : List (ℕ × ℤ)) (P : ℕ × ℤ → Type 0) → All P (xs ++ ys) → All P xs
    all_front [] ys P h = λ k d lt. absurd (omega arith)
    all_front (x ∷ xs) ys P h = All-cons P x xs (All-head P x (xs ++ ys) h) (all_front xs ys P (All-tail P x (xs ++ ys) h))

    last_one : (xs : List (ℕ × ℤ)) (y : ℕ × ℤ) (P : ℕ × ℤ → Type 0) → All P (xs ++ y ∷ []) → P y
    last_one [] y P h = All-head P y [] h
    last_one (x ∷ xs) y P h = last_one xs y P (All-tail P x (xs ++ y ∷ []) h)

    unmapped : (ts : List (ℕ × ℤ)) (P : ℕ × ℤ → Type 0) → All P (scaled s ts) → All (λ t. P (t.0, t.1 *ℤ s)) ts
    unmapped [] P h = λ k d lt. absurd (omega arith)
    unmapped (t ∷ ts) P h = All-cons (λ t. P (t.0, t.1 *ℤ s)) t ts (All-head P (t.0, t.1 *ℤ s) (scaled s ts) h) (unmapped ts P (All-tail P (t.0, t.1 *ℤ s) (scaled s ts) h))
