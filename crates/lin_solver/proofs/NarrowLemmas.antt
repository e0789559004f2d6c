-- No number of narrow rows leaves 128 bits on the way back.
use Rattle.std.specs.Prelude.{◌≡◌, ◌≢◌, ℕ, suc, ◌+◌, ◌*◌, ◌≤◌, ◌<◌, ◌^◌, ℤ, pos, ◌-ℤ◌, ◌*ℤ◌, ◌≤ℤ◌, ◌<ℤ◌, unsigned_abs, List, [], ◌∷◌, ◌⊎◌, map, get_or, All, AllPairs, Any, FitsSigned, refl}
use Rattle.std.specs.Int.{w128}
use Rattle.std.proofs.Common.{sym, ap, ◌∙◌, subst, arith, inl, inr}
use Rattle.std.proofs.Math.IntN.{*ℤ_comm}
use Rattle.std.proofs.lemmas.Int.{ints, unsigned_abs-mul}
use Rattle.std.proofs.lemmas.List.Elements.{All-nil, All-cons, All-head, All-tail, All-weaker, All-append}
use Rattle.lin_rows.specs.declared.row.Row.{Row}
use Rattle.lin_rows.specs.declared.point.Point.{Point}
use Rattle.lin_rows.specs.declared.wide.WidePoint.{WidePoint}
use Rattle.lin_rows.specs.declared.wide.WidePoint.TheVariants as points
use Rattle.lin_rows.specs.Terms.{IsAbove, IsNormal, coef_at}
use Rattle.lin_rows.specs.Derived.{Derived, Occurs}
use Rattle.lin_rows.specs.DerivedLaws.{derived-below}
use Rattle.lin_rows.specs.Points.{valuation, IsWholeIn, HasLeastUnit}
use Rattle.lin_rows.specs.WidePoints.{IsBound, IsPointFrom, HasDerivedValues, rests_of, numbers_back, IsWide, HasWideNumber, IsWideBound, IsWidePointOf}
use Rattle.lin_rows.specs.Ring.{*ℤ_assoc}
use Rattle.lin_rows.specs.TermLaws.{at_or_not, coef-first, coef-miss, coef-below, above_less}
use Rattle.lin_solver.specs.Stops.{HasNormalRow}
use Rattle.lin_solver.specs.Narrow.{IsWithin, AreAmong, IsNarrow}
use Rattle.lin_solver.proofs.BoundLemmas.{cancel}
use Rattle.lin_solver.proofs.PointLemmas.{val_hit, val_miss}
use Rattle.lin_solver.proofs.RoomLemmas.{after, by_order, after_more, after_less}
use Rattle.lin_solver.proofs.RestLemmas.{products_of}
use Rattle.lin_solver.proofs.GrowthLemmas.{zero_or_not, occurs, product_within, tiers, no_wide_pair, number_fits}
use Rattle.lin_solver.proofs.SizeLemmas.{Ascend, Member, member_above, total, Covers, Sized, sized_none, sized_lower, sized_zero, sized_tight}

-- a value is 0 or a bound
value_case : (rows : List Row) (p : Point) (ts : List (ℕ × ℤ)) (w : ℕ) → All (λ t. (t.1 ≡ pos 0) ⊎ IsBound rows p t.0) ts → (valuation ts w ≡ pos 0) ⊎ IsBound rows p w
value_case rows p [] w way = inl refl
value_case rows p (t ∷ ts) w way = at_or_not w t.0
    (λ e. elim (All-head (λ t. (t.1 ≡ pos 0) ⊎ IsBound rows p t.0) t ts way) [
      | inl z ↦ inl (val_hit w t.0 t.1 ts e ∙ z)
      | inr b ↦ inr (subst (IsBound rows p) (sym e) b)
    ])
    (λ n. elim (value_case rows p ts w (All-tail (λ t. (t.1 ≡ pos 0) ⊎ IsBound rows p t.0) t ts way)) [
      | inl z ↦ inl (val_miss w t.0 t.1 ts n ∙ z)
      | inr b ↦ inr b
    ])

-- a variable that isn't listed is 0
value_none : (P : ℕ → Type 0) (ts : List (ℕ × ℤ)) (u : ℕ) → All (λ t. P t.0) ts → ¬ (P u) → valuation ts u ≡ pos 0
value_none P [] u listed no_such = refl
value_none P (t ∷ ts) u listed no_such = at_or_not u t.0
    (λ e. absurd (no_such (subst P (sym e) (All-head (λ t. P t.0) t ts listed))))
    (λ n. val_miss u t.0 t.1 ts n ∙ value_none P ts u (All-tail (λ t. P t.0) t ts listed) no_such)

-- variables that are listed once have their values
values_of : (ts : List (ℕ × ℤ)) → AllPairs (λ s t. s.0 ≢ t.0) ts → All (λ t. valuation ts t.0 ≡ t.1) ts
values_of [] once = All-nil (λ t. valuation [] t.0 ≡ t.1)
values_of (t ∷ ts) once =
    let rest = values_of ts (λ i j d lt within. once (suc i) (suc j) d (omega arith) (omega arith)) in
    All-cons (λ u. valuation (t ∷ ts) u.0 ≡ u.1) t ts (val_hit t.0 t.0 t.1 ts refl)
    (λ k d lt. val_miss (get_or ts k d).0 t.0 t.1 ts (λ e. once 0 (suc k) d (omega arith) (omega arith) (sym e)) ∙ rest k d lt)

-- the least unit is at most any other, and so are the values
unit_le : (p : Point) (low : ℕ) (us : List ℕ) (s : ℕ) → HasLeastUnit p → AllPairs (λ t u. t.0 ≢ u.0) p.values → All (λ t. low ≤ t.0) p.values → (is : Sized (valuation p.values) p.q low us s) → p.q ≤ℤ pos is.d
unit_le p low us s unit once from is =
    unit.least (pos is.d) (at_least is.d is.positive) (λ k d lt. whole (get_or p.values k d) (values_of p.values once k d lt) (from k d lt))
  where
    at_least : (d : ℕ) → 0 < d → pos 1 ≤ℤ pos d
    at_least d h = omega (arith, ints)

    whole : (t : ℕ × ℤ) → valuation p.values t.0 ≡ t.1 → low ≤ t.0 → IsWholeIn p.q (pos is.d) t.1
    whole t e le = (is.n t.0, sym (is.same t.0 le) ∙ ap (λ z. z *ℤ pos is.d) e)

value_le : (x n q : ℤ) (d : ℕ) → 0 < d → pos 1 ≤ℤ q → q ≤ℤ pos d → x *ℤ pos d ≡ n *ℤ q → unsigned_abs x ≤ unsigned_abs n
value_le x n q d some positive le e =
    divided (unsigned_abs x) (unsigned_abs n) d some (subst (λ i. i ≤ unsigned_abs n * d) (sym (sym (unsigned_abs-mul x (pos d)) ∙ ap unsigned_abs e ∙ unsigned_abs-mul n q)) (times (unsigned_abs n) (unsigned_abs q) d (size q positive le)))
  where
    size : (q : ℤ) → pos 1 ≤ℤ q → q ≤ℤ pos d → unsigned_abs q ≤ d
    size q p h = omega (arith, ints)

    times : (m a b : ℕ) → a ≤ b → m * a ≤ m * b
    times m a b h = grind arith

    divided : (a b d : ℕ) → 0 < d → a * d ≤ b * d → a ≤ b
    divided a b d p h = grind arith

total_le : (x n : ℕ → ℤ) (us : List ℕ) → ((u : ℕ) → unsigned_abs (x u) ≤ unsigned_abs (n u)) → total x us ≤ total n us
total_le x n [] le = omega arith
total_le x n (u ∷ us) le = let p = total_le x n us le in let q = le u in omega arith

-- how large a point in the least unit is
record Small (p : Point) (us : List ℕ) (s : ℕ) : Type 0 where
  unit : unsigned_abs p.q + total (valuation p.values) us ≤ s

small_of : (p : Point) (low : ℕ) (us : List ℕ) (s : ℕ) → HasLeastUnit p → AllPairs (λ t u. t.0 ≢ u.0) p.values → All (λ t. low ≤ t.0) p.values → Sized (valuation p.values) p.q low us s → Small p us s
small_of p low us s unit once from is =
    let le = unit_le p low us s unit once from is in
    let each = λ (u : ℕ). by_order {P = unsigned_abs (valuation p.values u) ≤ unsigned_abs (is.n u)} u low
    (λ lt. none_le (valuation p.values u) (unsigned_abs (is.n u)) (value_none (λ w. low ≤ w) p.values u from (λ h. omega arith)))
    (λ more. value_le (valuation p.values u) (is.n u) p.q is.d is.positive unit.positive le (is.same u more)) in
    record { unit = within p.q is.d (total (valuation p.values) us) (total is.n us) s unit.positive le (total_le (valuation p.values) is.n us each) is.small }
  where
    none_le : (z : ℤ) (k : ℕ) → z ≡ pos 0 → unsigned_abs z ≤ k
    none_le z k e = omega (arith, ints)

    within : (q : ℤ) (d a b s : ℕ) → pos 1 ≤ℤ q → q ≤ℤ pos d → a ≤ b → d + b ≤ s → unsigned_abs q + a ≤ s
    within q d a b s p h k l = omega (arith, ints)

member_le : (x : ℕ → ℤ) (us : List ℕ) (u : ℕ) → Member us u → unsigned_abs (x u) ≤ total x us
member_le x [] u h = absurd h
member_le x (w ∷ us) u (inl e) = let same : unsigned_abs (x u) ≡ unsigned_abs (x w) = ap (λ v. unsigned_abs (x v)) e in omega arith
member_le x (w ∷ us) u (inr h) = let le = member_le x us u h in omega arith

-- a step of the way back
way_step : (rows : List Row) (p : Point) (w : ℕ) (us : List ℕ) (m s : ℕ) → Ascend w us → ((r : Row) → Derived rows w r → IsWithin m r) → ((r : Row) → Derived rows w r → Covers r w us) → 1 ≤ m → HasDerivedValues rows p → Sized (valuation p.values) p.q (w + 1) us s → Sized (valuation p.values) p.q w (w ∷ us) (2 * (m * s))
way_step rows p w us m s up within covers some way is = elim (value_case rows p p.values w way) [
  | inl z ↦ sized_zero (valuation p.values) p.q w us m s some is z
  | inr b ↦ sized_tight (valuation p.values) p.q w us m s b.0 up (covers b.0 b.1) (within b.0 b.1) (derived-below rows w b.0 b.1) b.2 b.3 is
]

-- the sum of sizes
abbrev sizes : List ℤ → ℕ
sizes [] = 0
sizes (y ∷ ys) = unsigned_abs y + sizes ys

products_small : (ys : List ℤ) → All (λ z. unsigned_abs z ≤ sizes ys) ys
products_small [] = All-nil (λ z. unsigned_abs z ≤ 0)
products_small (y ∷ ys) = All-cons (λ z. unsigned_abs z ≤ unsigned_abs y + sizes ys) y ys (omega arith) (All-weaker (λ z. unsigned_abs z ≤ sizes ys) (λ z. unsigned_abs z ≤ unsigned_abs y + sizes ys) (λ z h. more (unsigned_abs z) (sizes ys) (unsigned_abs y) h) ys (products_small ys))
  where
    more : (a b c : ℕ) → a ≤ b → a ≤ c + b
    more a b c h = omega arith

rests_small : (z : ℤ) (ys : List ℤ) → All (λ w. unsigned_abs w ≤ unsigned_abs z + sizes ys) (rests_of z ys)
rests_small z [] = All-cons (λ w. unsigned_abs w ≤ unsigned_abs z + 0) z [] (omega arith) (All-nil (λ w. unsigned_abs w ≤ unsigned_abs z + 0))
rests_small z (y ∷ ys) = All-cons (λ w. unsigned_abs w ≤ unsigned_abs z + (unsigned_abs y + sizes ys)) z (rests_of (z -ℤ y) ys) (omega arith) (All-weaker (λ w. unsigned_abs w ≤ unsigned_abs (z -ℤ y) + sizes ys) (λ w. unsigned_abs w ≤ unsigned_abs z + (unsigned_abs y + sizes ys)) (λ w h. more (unsigned_abs w) z y (sizes ys) h) (rests_of (z -ℤ y) ys) (rests_small (z -ℤ y) ys))
  where
    more : (a : ℕ) (z y : ℤ) (b : ℕ) → a ≤ unsigned_abs (z -ℤ y) + b → a ≤ unsigned_abs z + (unsigned_abs y + b)
    more a z y b h = omega (arith, ints)

-- terms in order whose variables are among these
abbrev FitsIn : ℕ → List ℕ → List (ℕ × ℤ) → Type 0
FitsIn m us [] = Unit {0}
FitsIn m us (t ∷ ts) = (unsigned_abs t.1 ≤ m) × Member us t.0 × FitsIn m us ts

fits_rest : (m u : ℕ) (us : List ℕ) (ts : List (ℕ × ℤ)) → IsAbove (u + 1) ts → FitsIn m (u ∷ us) ts → FitsIn m us ts
fits_rest m u us [] above fits = tt
fits_rest m u us (t ∷ ts) above (le, here, rest) =
    let lt : u + 1 ≤ t.0 = above.0 in
    (le, later here (omega arith), fits_rest m u us ts (above_less (u + 1) (t.0 + 1) ts (omega arith) above.2) rest)
  where
    later : (t.0 ≡ u) ⊎ Member us t.0 → u < t.0 → Member us t.0
    later (inl e) lt = absurd (omega arith)
    later (inr h) lt = h

products_le : (m low n : ℕ) (us : List ℕ) (ts : List (ℕ × ℤ)) (x : ℕ → ℤ) → Ascend low us → IsAbove n ts → FitsIn m us ts → sizes (map (λ t. t.1 *ℤ x t.0) ts) ≤ m * total x us
products_le m low n [] [] x up above fits = omega arith
products_le m low n [] (t ∷ ts) x up above fits = absurd fits.1
products_le m low n (u ∷ us) [] x up above fits = omega arith
products_le m low n (u ∷ us) (t ∷ ts) x up above (le, here, rest) = at_or_not t.0 u
    (λ e.
    let above' = subst (λ k. IsAbove (k + 1) ts) e above.2 in
    let p = product_within t.1 (x t.0) m (unsigned_abs (x t.0)) le (same_le (unsigned_abs (x t.0))) in
    let q = products_le m u (u + 1) us ts x up.1 above' (fits_rest m u us ts above' rest) in
    let i : unsigned_abs (x t.0) ≡ unsigned_abs (x u) = ap (λ v. unsigned_abs (x v)) e in
    joined m (unsigned_abs (t.1 *ℤ x t.0)) (sizes (map (λ t. t.1 *ℤ x t.0) ts)) (unsigned_abs (x u)) (total x us) (subst (λ k. unsigned_abs (t.1 *ℤ x t.0) ≤ m * k) i p) q)
    (λ h.
    let there = later h here in
    let lt = member_above u us t.0 up.1 there in
    let q = products_le m u n us (t ∷ ts) x up.1 above (le, there, fits_rest m u us ts (above_less (u + 1) (t.0 + 1) ts (omega arith) above.2) rest) in
    more m (unsigned_abs (t.1 *ℤ x t.0) + sizes (map (λ t. t.1 *ℤ x t.0) ts)) (unsigned_abs (x u)) (total x us) q)
  where
    same_le : (k : ℕ) → k ≤ k
    same_le k = omega arith

    later : t.0 ≢ u → (t.0 ≡ u) ⊎ Member us t.0 → Member us t.0
    later h (inl e) = absurd (h e)
    later h (inr there) = there

    joined : (m a b c d : ℕ) → a ≤ m * c → b ≤ m * d → a + b ≤ m * (c + d)
    joined m a b c d p q = let e = spread m c d in omega arith
      where
        spread : (m a b : ℕ) → m * (a + b) ≡ m * a + m * b
        spread m a b = grind arith

    more : (m a c d : ℕ) → a ≤ m * d → a ≤ m * (c + d)
    more m a c d p = let e = spread m c d in omega arith
      where
        spread : (m a b : ℕ) → m * (a + b) ≡ m * a + m * b
        spread m a b = grind arith

-- the terms of a row in order after a variable
after_fits : (m v n : ℕ) (us : List ℕ) (ts : List (ℕ × ℤ)) → IsAbove n ts → ((z : ℕ) → unsigned_abs (coef_at ts z) ≤ m) → ((z : ℕ) → v < z → (coef_at ts z ≡ pos 0) ⊎ Member us z) → FitsIn m us (after v ts) × IsAbove n (after v ts)
after_fits m v n us [] above small covers = (tt, tt)
after_fits m v n us (t ∷ ts) above small covers =
    let first : coef_at (t ∷ ts) t.0 ≡ t.1 = coef-first t.0 t.0 t.1 ts refl above.2 in
    let none : coef_at ts t.0 ≡ pos 0 = coef-below (t.0 + 1) ts t.0 above.2 (omega arith) in
    let small' = λ (z : ℕ). at_or_not {P = unsigned_abs (coef_at ts z) ≤ m} z t.0
    (λ e. none_le (coef_at ts z) m (ap (coef_at ts) e ∙ none))
    (λ h. subst (λ c. unsigned_abs c ≤ m) (coef-miss z t.0 t.1 ts h) (small z)) in
    let covers' = λ (z : ℕ) (lt : v < z). at_or_not {P = (coef_at ts z ≡ pos 0) ⊎ Member us z} z t.0
    (λ e. inl (ap (coef_at ts) e ∙ none))
    (λ h. subst (λ c. (c ≡ pos 0) ⊎ Member us z) (coef-miss z t.0 t.1 ts h) (covers z lt)) in
    let (fits, up) = after_fits m v (t.0 + 1) us ts above.2 small' covers' in
    by_order v t.0
    (λ lt. subst (λ ls. FitsIn m us ls × IsAbove n ls) (sym (after_more v t ts lt)) ((subst (λ c. unsigned_abs c ≤ m) first (small t.0), member t.1 first above.1 (covers t.0 lt), fits), (above.0, above.1, up)))
    (λ le. subst (λ ls. FitsIn m us ls × IsAbove n ls) (sym (after_less v t ts le)) (fits, above_less n (t.0 + 1) (after v ts) (let h : n ≤ t.0 = above.0 in omega arith) up))
  where
    none_le : (z : ℤ) (k : ℕ) → z ≡ pos 0 → unsigned_abs z ≤ k
    none_le z k e = omega (arith, ints)

    member : (c : ℤ) → coef_at (t ∷ ts) t.0 ≡ c → c ≢ pos 0 → (coef_at (t ∷ ts) t.0 ≡ pos 0) ⊎ Member us t.0 → Member us t.0
    member c e some (inl z) = absurd (some (sym e ∙ z))
    member c e some (inr h) = h

not_any_wide : (zs : List ℤ) (k : ℕ) → k < 2 ^ 127 → All (λ z. unsigned_abs z ≤ k) zs → Any IsWide zs → ⊥
not_any_wide zs k lt small (i, z, within, e, wide) = wide (number_fits z k (subst (λ y. unsigned_abs y ≤ k) e (small i z within)) lt)

-- no number on the way to a bound is too wide
no_wide_number : (p : Point) (r : Row) (v : ℕ) (us : List ℕ) (m s : ℕ) → IsNormal r.coefs → Ascend v us → Covers r v us → IsWithin m r → Small p us s → m * s < 2 ^ 127 → Any IsWide (numbers_back p r v) → ⊥
no_wide_number p r v us m s normal up covers within small lt wide =
    let x = valuation p.values in
    let (fits, above) = after_fits m v 0 us r.coefs normal within.coefs covers in
    let ys = products_of v r.coefs x in
    let le : sizes ys ≤ m * total x us = products_le m v 0 us (after v r.coefs) x up above fits in
    let first = product_within r.bound p.q m (unsigned_abs p.q) within.bound (same_le (unsigned_abs p.q)) in
    let whole : unsigned_abs (r.bound *ℤ p.q) + sizes ys ≤ m * s = joined m (unsigned_abs (r.bound *ℤ p.q)) (sizes ys) (unsigned_abs p.q) (total x us) s first le small.unit in
    not_any_wide (numbers_back p r v) (m * s) lt (All-append (λ z. unsigned_abs z ≤ m * s) ys (rests_of (r.bound *ℤ p.q) ys)
    (All-weaker (λ z. unsigned_abs z ≤ sizes ys) (λ z. unsigned_abs z ≤ m * s) (λ z h. part (unsigned_abs z) (unsigned_abs (r.bound *ℤ p.q)) (sizes ys) (m * s) h whole) ys (products_small ys))
    (All-weaker (λ z. unsigned_abs z ≤ unsigned_abs (r.bound *ℤ p.q) + sizes ys) (λ z. unsigned_abs z ≤ m * s) (λ z h. trans (unsigned_abs z) (unsigned_abs (r.bound *ℤ p.q) + sizes ys) (m * s) h whole) (rests_of (r.bound *ℤ p.q) ys) (rests_small (r.bound *ℤ p.q) ys))) wide
  where
    same_le : (k : ℕ) → k ≤ k
    same_le k = omega arith

    trans : (a b c : ℕ) → a ≤ b → b ≤ c → a ≤ c
    trans a b c p q = omega arith

    part : (a b c k : ℕ) → a ≤ c → b + c ≤ k → a ≤ k
    part a b c k p q = omega arith

    joined : (m a b q t s : ℕ) → a ≤ m * q → b ≤ m * t → q + t ≤ s → a + b ≤ m * s
    joined m a b q t s p h k = let e = spread m q t in let f = times m (q + t) s k in omega arith
      where
        spread : (m a b : ℕ) → m * (a + b) ≡ m * a + m * b
        spread m a b = grind arith

        times : (m a b : ℕ) → a ≤ b → m * a ≤ m * b
        times m a b h = grind arith

-- the numbers of a point serve for one that follows it
transferred : (x y : ℕ → ℤ) (q k : ℤ) (low : ℕ) (us : List ℕ) (s : ℕ) → pos 1 ≤ℤ q → ((u : ℕ) → low ≤ u → y u *ℤ q ≡ x u *ℤ k) → Sized x q low us s → Sized y k low us s
transferred x y q k low us s positive follows is = record {
  d = is.d;
  n = is.n;
  positive = is.positive;
  same = λ u le. same_from (y u *ℤ pos is.d) (is.n u *ℤ k) q positive (swap (y u) (pos is.d) q ∙ ap (λ z. z *ℤ pos is.d) (follows u le) ∙ swap (x u) k (pos is.d) ∙ ap (λ z. z *ℤ k) (is.same u le) ∙ swap (is.n u) q k);
  none = is.none;
  small = is.small;
}
  where
    swap : (a b c : ℤ) → (a *ℤ b) *ℤ c ≡ (a *ℤ c) *ℤ b
    swap a b c = *ℤ_assoc a b c ∙ ap (λ z. a *ℤ z) (*ℤ_comm b c) ∙ sym (*ℤ_assoc a c b)

    same_from : (a b q : ℤ) → pos 1 ≤ℤ q → a *ℤ q ≡ b *ℤ q → a ≡ b
    same_from a b q some e = antisymm a b (cancel a b q (more q some) (as_le (a *ℤ q) (b *ℤ q) e)) (cancel b a q (more q some) (as_le (b *ℤ q) (a *ℤ q) (sym e)))
      where
        more : (q : ℤ) → pos 1 ≤ℤ q → pos 0 <ℤ q
        more q h = omega (arith, ints)

        as_le : (a b : ℤ) → a ≡ b → a ≤ℤ b
        as_le a b e = omega (arith, ints)

        antisymm : (a b : ℤ) → a ≤ℤ b → b ≤ℤ a → a ≡ b
        antisymm a b p q = omega (arith, ints)

listed_of : (rows : List Row) (n : ℕ) (p : Point) → IsPointFrom rows n p → All (λ t. Occurs rows t.0) p.values
listed_of rows n p from = All-weaker (λ t. (n ≤ t.0) × Occurs rows t.0) (λ t. Occurs rows t.0) (λ t h. h.1) p.values from.variables.no_other

-- a row derived from rows has their variables alone
covers_from : (rows : List Row) (r : Row) (u w : ℕ) (us : List ℕ) → Derived rows u r → ((z : ℕ) → w < z → Occurs rows z → Member us z) → Covers r w us
covers_from rows r u w us d members z more = zero_or_not (coef_at r.coefs z) (λ e. inl e) (λ some. inr (members z more (occurs rows u r d z some)))

-- no bound is too wide
no_wide_bound : (rows : List Row) (p : Point) (r : Row) (v : ℕ) (us : List ℕ) (m s : ℕ) → IsWideBound rows p r v → IsNormal r.coefs → Ascend v us → ((z : ℕ) → v < z → Occurs rows z → Member us z) → IsWithin m r → Sized (valuation p.values) p.q (v + 1) us s → m * s < 2 ^ 127 → 2 * (m * s) < 2 ^ 127 → ⊥
no_wide_bound rows p r v us m s wide normal up members within sized lt lt' = elim wide.wide [
  | inl any ↦ no_wide_number p r v us m s normal up covers within small lt any
  | inr moved ↦
      let p' = moved.0 in
      let from' = moved.1 in
      let follows = moved.2 in
      let after' = transferred (valuation p.values) (valuation p'.values) p.q p'.q (v + 1) us s wide.after.unit.positive (λ u le. follows.same u (omega arith)) sized in
      let sized' = sized_tight (valuation p'.values) p'.q v us m s r up covers within (derived-below rows v r wide.derived) wide.has follows.bound after' in
      let small' = small_of p' v (v ∷ us) (2 * (m * s)) from'.unit from'.variables.once (All-weaker (λ t. (v ≤ t.0) × Occurs rows t.0) (λ t. v ≤ t.0) (λ t h. h.0) p'.values from'.variables.no_other) sized' in
      wide_none p' from' small' moved.3
]
  where
    covers : Covers r v us
    covers = covers_from rows r v v us wide.derived members

    small : Small p us s
    small = small_of p (v + 1) us s wide.after.unit wide.after.variables.once (All-weaker (λ t. (v + 1 ≤ t.0) × Occurs rows t.0) (λ t. v + 1 ≤ t.0) (λ t h. h.0) p.values wide.after.variables.no_other) sized

    wide_none : (p' : Point) → IsPointFrom rows v p' → Small p' (v ∷ us) (2 * (m * s)) → HasWideNumber p' → ⊥
    wide_none p' from' small' (inl unit) = unit (number_fits p'.q (2 * (m * s)) (let h = small'.unit in omega arith) lt')
    wide_none p' from' small' (inr (i, t, there, e, is)) =
        let listed = subst (λ u. (v ≤ u.0) × Occurs rows u.0) e (from'.variables.no_other i t there) in
        let value : valuation p'.values t.0 ≡ t.1 = subst (λ u. valuation p'.values u.0 ≡ u.1) e (values_of p'.values from'.variables.once i t there) in
        let le = member_le (valuation p'.values) (v ∷ us) t.0 (at_or_not t.0 v (λ same. inl same) (λ other. inr (members t.0 (less v t.0 listed.0 other) listed.1))) in
        is (subst (λ z. FitsSigned w128 z) value (number_fits (valuation p'.values t.0) (2 * (m * s)) (let h = small'.unit in omega arith) lt'))
      where
        less : (v u : ℕ) → v ≤ u → u ≢ v → v < u
        less v u le n = omega arith

-- the variables after each of three
after_c : (rows : List Row) (a b c : ℕ) → a < b → b < c → AreAmong rows a b c → (z : ℕ) → c < z → Occurs rows z → ⊥
after_c rows a b c ab bc among z more there = elim (among z there) [
  | inl e ↦ omega arith
  | inr other ↦ elim other [ inl e ↦ omega arith | inr e ↦ omega arith ]
]

after_b : (rows : List Row) (a b c : ℕ) → a < b → b < c → AreAmong rows a b c → (z : ℕ) → b < z → Occurs rows z → z ≡ c
after_b rows a b c ab bc among z more there = elim (among z there) [
  | inl e ↦ absurd (omega arith)
  | inr other ↦ elim other [ inl e ↦ absurd (omega arith) | inr e ↦ e ]
]

after_a : (rows : List Row) (a b c : ℕ) → a < b → b < c → AreAmong rows a b c → (z : ℕ) → a < z → Occurs rows z → (z ≡ b) ⊎ (z ≡ c)
after_a rows a b c ab bc among z more there = elim (among z there) [
  | inl e ↦ absurd (omega arith)
  | inr other ↦ other
]

-- a point of these variables, from the last on
sized_c : (rows : List Row) (a b c : ℕ) (p : Point) → a < b → b < c → AreAmong rows a b c → All (λ t. Occurs rows t.0) p.values → Sized (valuation p.values) p.q (c + 1) [] 1
sized_c rows a b c p ab bc among listed =
    sized_none (valuation p.values) p.q (c + 1) (λ u le. value_none (Occurs rows) p.values u listed (after_c rows a b c ab bc among u (omega arith)))

abbrev size_b : ℕ
size_b = 2 * (2 ^ 47 * 1)

sized_b : (rows : List Row) (a b c : ℕ) (p : Point) → a < b → b < c → AreAmong rows a b c → All (IsWithin (2 ^ 11)) rows → All (λ t. Occurs rows t.0) p.values → HasDerivedValues rows p → Sized (valuation p.values) p.q (b + 1) (c ∷ []) size_b
sized_b rows a b c p ab bc among small listed way =
    let at_c = way_step rows p c [] (2 ^ 47) 1 tt
    (λ r d. (tiers rows a b c ab bc among small c r d).two (omega arith))
    (λ r d. covers_from rows r c c [] d (after_c rows a b c ab bc among))
    (omega arith) way (sized_c rows a b c p ab bc among listed) in
    sized_lower (valuation p.values) p.q c (b + 1) (c ∷ []) size_b at_c (omega arith)
    (λ u from to. value_none (Occurs rows) p.values u listed (λ there. let e = after_b rows a b c ab bc among u (omega arith) there in omega arith))

abbrev size_a : ℕ
size_a = 2 * (2 ^ 23 * size_b)

sized_a : (rows : List Row) (a b c : ℕ) (p : Point) → a < b → b < c → AreAmong rows a b c → All (IsWithin (2 ^ 11)) rows → All (λ t. Occurs rows t.0) p.values → HasDerivedValues rows p → Sized (valuation p.values) p.q (a + 1) (b ∷ c ∷ []) size_a
sized_a rows a b c p ab bc among small listed way =
    let at_b = way_step rows p b (c ∷ []) (2 ^ 23) size_b (bc, tt)
    (λ r d. (tiers rows a b c ab bc among small b r d).one (omega arith))
    (λ r d. covers_from rows r b b (c ∷ []) d (λ z more there. inl (after_b rows a b c ab bc among z more there)))
    (omega arith) way (sized_b rows a b c p ab bc among small listed way) in
    sized_lower (valuation p.values) p.q b (a + 1) (b ∷ c ∷ []) size_a at_b (omega arith)
    (λ u from to. value_none (Occurs rows) p.values u listed (λ there. elim (after_a rows a b c ab bc among u (omega arith) there) [ inl e ↦ omega arith | inr e ↦ omega arith ]))

bound_not_wide : (rows : List Row) (p : Point) (r : Row) (v a b c : ℕ) → a < b → b < c → AreAmong rows a b c → All (IsWithin (2 ^ 11)) rows → IsWideBound rows p r v → IsNormal r.coefs → (v ≡ a) ⊎ ((v ≡ b) ⊎ (v ≡ c)) → ⊥
bound_not_wide rows p r v a b c ab bc among small wide normal (inl e) =
    no_wide_bound rows p r v (b ∷ c ∷ []) (2 ^ 11) size_a wide normal (omega arith, (bc, tt))
    (λ z more there. elim (after_a rows a b c ab bc among z (omega arith) there) [ inl f ↦ inl f | inr f ↦ inr (inl f) ])
    ((tiers rows a b c ab bc among small v r wide.derived).none (omega arith))
    (subst (λ u. Sized (valuation p.values) p.q (u + 1) (b ∷ c ∷ []) size_a) (sym e) (sized_a rows a b c p ab bc among small (listed_of rows (v + 1) p wide.after) wide.way))
    (omega arith) (omega arith)
bound_not_wide rows p r v a b c ab bc among small wide normal (inr (inl e)) =
    no_wide_bound rows p r v (c ∷ []) (2 ^ 23) size_b wide normal (omega arith, tt)
    (λ z more there. inl (after_b rows a b c ab bc among z (omega arith) there))
    ((tiers rows a b c ab bc among small v r wide.derived).one (omega arith))
    (subst (λ u. Sized (valuation p.values) p.q (u + 1) (c ∷ []) size_b) (sym e) (sized_b rows a b c p ab bc among small (listed_of rows (v + 1) p wide.after) wide.way))
    (omega arith) (omega arith)
bound_not_wide rows p r v a b c ab bc among small wide normal (inr (inr e)) =
    no_wide_bound rows p r v [] (2 ^ 47) 1 wide normal tt
    (λ z more there. after_c rows a b c ab bc among z (omega arith) there)
    ((tiers rows a b c ab bc among small v r wide.derived).two (omega arith))
    (subst (λ u. Sized (valuation p.values) p.q (u + 1) [] 1) (sym e) (sized_c rows a b c p ab bc among (listed_of rows (v + 1) p wide.after)))
    (omega arith) (omega arith)

-- no point of narrow rows is wide
pub never_wide : (rows : List Row) (w : WidePoint) → IsNarrow rows → IsWidePointOf rows w → HasNormalRow w → ⊥
never_wide rows (points.Pair x y v) narrow wide normal =
    let (a, b, c, ab, bc, among) = narrow.variables in
    no_wide_pair rows a b c ab bc among narrow.numbers x y v wide
never_wide rows (points.Form place) narrow wide normal = absurd wide
never_wide rows (points.Bound p r v) narrow wide normal =
    let (a, b, c, ab, bc, among) = narrow.variables in
    bound_not_wide rows p r v a b c ab bc among narrow.numbers wide normal (among v (occurs rows v r wide.derived v wide.has))
