-- Laws of one step of the way back.
use Rattle.std.specs.Prelude.{◌≡◌, ◌≢◌, ℕ, ◌+◌, ◌*◌, ◌≤◌, ◌<◌, ℤ, pos, negsuc, ◌+ℤ◌, ◌*ℤ◌, ◌≤ℤ◌, ◌<ℤ◌, unsigned_abs, List, [], ◌∷◌, ◌++◌, ◌⊎◌, Some, slice_get, All, Contains}
use Rattle.std.proofs.Common.{sym, ap, ◌∙◌, subst, arith, inl, inr}
use Rattle.std.proofs.Math.IntN.{*ℤ_comm}
use Rattle.std.proofs.lemmas.Int.{ints}
use Rattle.std.proofs.lemmas.List.Elements.{All-weaker, All-push, All-map, All-contains}
use Rattle.lin_rows.specs.declared.row.Row.{Row}
use Rattle.lin_rows.specs.declared.step.ComboStep.{ComboStep}
use Rattle.lin_rows.specs.declared.point.Point.{Point}
use Rattle.lin_rows.specs.Terms.{coef_at, value_at}
use Rattle.lin_rows.specs.Lowest.{IsElimination}
use Rattle.lin_rows.specs.Derived.{Derived, Occurs, summed}
use Rattle.lin_rows.specs.DerivedLaws.{derived-below}
use Rattle.lin_rows.specs.LowestLaws.{AreCoprime}
use Rattle.lin_rows.specs.Ring.{*ℤ_assoc}
use Rattle.lin_rows.specs.UnitLaws.{has_least_unit}
use Rattle.lin_rows.specs.Points.{valuation}
use Rattle.lin_rows.specs.WidePoints.{IsTight, IsBound, IsPointFrom, Extends}
use Rattle.lin_solver.specs.Numbers.{numbered, HasRow, Implies, BoundsAbove, BoundsBelow, IsCovered}
use Rattle.lin_solver.specs.WayBack.{IsMetAt, IsOnWay, room, scaled, extension, HasNoneBelow, AreSumsMet}
use Rattle.lin_solver.proofs.NumberLemmas.{one_row}
use Rattle.lin_solver.proofs.RoomLemmas.{room_in, value_of_later, met_from_room, tight_from_room, some_room, room_scaled, room_sum}
use Rattle.lin_solver.proofs.PointLemmas.{value_other, value_new, lists_extension, reduced_extension}
use Rattle.lin_solver.proofs.BoundLemmas.{≤ℤ-*ℤ}

-- a point as the way back makes it is one in the least unit
pub point_from : (rows : List Row) (n : ℕ) (p : Point) → IsOnWay rows n p → IsPointFrom rows n p
point_from rows n p on = record { variables = on.variables; unit = has_least_unit p on.positive on.reduced }

-- the numbers of an extended point
later_values : (p : Point) (s z : ℤ) (v : ℕ) (w : ℕ) → v < w → valuation (scaled s p.values ++ (v, z) ∷ []) w ≡ valuation p.values w *ℤ s
later_values p s z v w lt = value_other p.values s z v w (λ e. omega arith)

new_value : (rows : List Row) (p : Point) (s z : ℤ) (v : ℕ) → IsOnWay rows (v + 1) p → valuation (scaled s p.values ++ (v, z) ∷ []) v ≡ z
new_value rows p s z v on = value_new p.values s z v (All-weaker (λ t. (v + 1 ≤ t.0) × Occurs rows t.0) (λ t. v ≢ t.0) (λ t h e. let le : v + 1 ≤ t.0 = h.0 in omega arith) p.values on.variables.no_other)

-- a row of later variables stays met
pub met_later : (p : Point) (s z : ℤ) (v : ℕ) (r : Row) → pos 1 ≤ℤ s → HasNoneBelow (v + 1) r → IsMetAt p r → IsMetAt (extension p s v z) r
met_later p s z v r positive none met =
    subst (λ a. a ≤ℤ (r.bound *ℤ (p.q *ℤ s))) (sym (value_of_later (valuation p.values) (valuation (scaled s p.values ++ (v, z) ∷ [])) s v r none (later_values p s z v)))
    (subst (λ b. (value_at (valuation p.values) r.coefs *ℤ s) ≤ℤ b) (*ℤ_assoc r.bound p.q s) (≤ℤ-*ℤ (value_at (valuation p.values) r.coefs) (r.bound *ℤ p.q) s (weaker s positive) met))
  where
    weaker : (s : ℤ) → pos 1 ≤ℤ s → pos 0 ≤ℤ s
    weaker s h = omega (arith, ints)

-- a row derived before `v` is met where its term is at most its room
pub met_here : (rows : List Row) (p : Point) (s z : ℤ) (v : ℕ) (r : Row) → IsOnWay rows (v + 1) p → Derived rows v r → (coef_at r.coefs v *ℤ z) ≤ℤ (room p r v *ℤ s) → IsMetAt (extension p s v z) r
met_here rows p s z v r on d le =
    met_from_room (p.q *ℤ s) (valuation (scaled s p.values ++ (v, z) ∷ [])) v r (derived-below rows v r d)
    (subst (λ a. (coef_at r.coefs v *ℤ a) ≤ℤ room_in (p.q *ℤ s) (valuation (scaled s p.values ++ (v, z) ∷ [])) r v) (sym (new_value rows p s z v on))
    (subst (λ b. (coef_at r.coefs v *ℤ z) ≤ℤ b) (sym (room_scaled p.q s (valuation p.values) (valuation (scaled s p.values ++ (v, z) ∷ [])) v r (later_values p s z v))) le))

-- and is tight where it is the room
pub tight_here : (rows : List Row) (p : Point) (s z : ℤ) (v : ℕ) (r : Row) → IsOnWay rows (v + 1) p → Derived rows v r → coef_at r.coefs v *ℤ z ≡ room p r v *ℤ s → IsTight (extension p s v z) r
tight_here rows p s z v r on d e =
    tight_from_room (p.q *ℤ s) (valuation (scaled s p.values ++ (v, z) ∷ [])) v r (derived-below rows v r d)
    (ap (λ a. coef_at r.coefs v *ℤ a) (new_value rows p s z v on) ∙ e ∙ sym (room_scaled p.q s (valuation p.values) (valuation (scaled s p.values ++ (v, z) ∷ [])) v r (later_values p s z v)))

-- bounds on later variables stay
bound_later : (rows : List Row) (p : Point) (s z : ℤ) (v u : ℕ) → v + 1 ≤ u → IsBound rows p u → IsBound rows (extension p s v z) u
bound_later rows p s z v u le (r, d, has, tight) =
    let none : HasNoneBelow (v + 1) r = λ w lt. derived-below rows u r d w (omega arith) in
    (r, d, has, value_of_later (valuation p.values) (valuation (scaled s p.values ++ (v, z) ∷ [])) s v r none (later_values p s z v) ∙ ap (λ a. a *ℤ s) tight ∙ *ℤ_assoc r.bound p.q s)

values_later : (rows : List Row) (p : Point) (s z : ℤ) (v : ℕ) (t : ℕ × ℤ) → v + 1 ≤ t.0 → (t.1 ≡ pos 0) ⊎ IsBound rows p t.0 → (t.1 *ℤ s ≡ pos 0) ⊎ IsBound rows (extension p s v z) t.0
values_later rows p s z v t le (inl e) = inl (ap (λ a. a *ℤ s) e ∙ none s)
  where
    none : (s : ℤ) → pos 0 *ℤ s ≡ pos 0
    none s = omega (arith, ints)
values_later rows p s z v t le (inr h) = inr (bound_later rows p s z v t.0 le h)

-- a step of the way back
pub extends_way : (rows : List Row) (p : Point) (s z : ℤ) (v : ℕ) → Occurs rows v → IsOnWay rows (v + 1) p → pos 1 ≤ℤ s → AreCoprime (unsigned_abs s) (unsigned_abs z) → (z ≡ pos 0) ⊎ IsBound rows (extension p s v z) v → IsOnWay rows v (extension p s v z)
extends_way rows p s z v occurs on some coprime new = record {
  variables = lists_extension rows p s z v occurs on.variables;
  positive = times_positive p.q s on.positive some;
  reduced = reduced_extension p s z v some coprime on.reduced;
  way = All-push (λ t. (t.1 ≡ pos 0) ⊎ IsBound rows (extension p s v z) t.0) (scaled s p.values) (v, z)
      (All-map (λ t. (t.1 ≡ pos 0) ⊎ IsBound rows (extension p s v z) t.0) (λ t. (t.0, t.1 *ℤ s)) p.values
      (λ k d lt. values_later rows p s z v _ (on.variables.no_other k d lt).0 (on.way k d lt)))
      new;
}
  where
    times_positive : (q s : ℤ) → pos 1 ≤ℤ q → pos 1 ≤ℤ s → pos 1 ≤ℤ (q *ℤ s)
    times_positive (pos m) (pos n) p q = let le = less_times m n (omega (arith, ints)) (omega (arith, ints)) in omega (arith, ints)
      where
        less_times : (m n : ℕ) → 0 < m → 0 < n → 0 < m * n
        less_times m n p q = grind arith
    times_positive (pos m) (negsuc n) p q = absurd (omega (arith, ints))
    times_positive (negsuc m) s p q = absurd (omega (arith, ints))

-- the extended point follows the other
pub extends_point : (rows : List Row) (p : Point) (s z : ℤ) (v : ℕ) (r : Row) → IsOnWay rows (v + 1) p → IsTight (extension p s v z) r → Extends p r v (extension p s v z)
extends_point rows p s z v r on tight = record {
  same = λ u lt. ap (λ a. a *ℤ p.q) (later_values p s z v u lt) ∙ *ℤ_assoc (valuation p.values u) s p.q ∙ ap (λ a. valuation p.values u *ℤ a) (*ℤ_comm s p.q);
  bound = tight;
}

-- a point meets what a row that it meets implies
pub met_implied : (p : Point) (s r : Row) → pos 1 ≤ℤ p.q → Implies s r → IsMetAt p s → IsMetAt p r
met_implied p s r some (same, le) met =
    subst (λ c. value_at (valuation p.values) c ≤ℤ (r.bound *ℤ p.q)) same (trans _ _ _ met (≤ℤ-*ℤ s.bound r.bound p.q (omega (arith, ints)) le))
  where
    trans : (x y z : ℤ) → x ≤ℤ y → y ≤ℤ z → x ≤ℤ z
    trans x y z h k = omega (arith, ints)

-- the rows of two numbers that bound `v` from both sides leave room together
pub rooms_together : (rows : List Row) (steps : List ComboStep) (p : Point) (v i j : ℕ) (a b : Row) (above below : List ℕ) → pos 1 ≤ℤ p.q → AreSumsMet rows steps p v above below → Contains above i → Contains below j → slice_get (numbered rows steps) i ≡ Some (Some a) → slice_get (numbered rows steps) j ≡ Some (Some b) → BoundsAbove rows v a → BoundsBelow rows v b →
    (k : ℤ) × (l : ℤ) × (pos 0 <ℤ k) × (pos 0 <ℤ l) × (k *ℤ coef_at a.coefs v +ℤ l *ℤ coef_at b.coefs v ≡ pos 0) × (pos 0 ≤ℤ (k *ℤ room p a v +ℤ l *ℤ room p b v))
rooms_together rows steps p v i j a b above below some (next, covered, met) at_above at_below e f d g =
    let (r, sum, (n, there, (s, at, implies))) = All-contains (IsCovered rows steps v next i) below j (All-contains (λ i. All (IsCovered rows steps v next i) below) above i covered at_above) at_below in
    let (a', e', (b', f', is)) = sum in
    let same_a : a' ≡ a = cc in
    let same_b : b' ≡ b = cc in
    let (k, l, low, total) = subst (λ c. IsElimination v a c r) same_b (subst (λ c. IsElimination v c b' r) same_a is) in
    let here = met_implied p s r some implies (one_row rows steps (IsMetAt p) n s at (All-contains (HasRow rows steps (IsMetAt p)) next n met there)) in
    let none : HasNoneBelow (v + 1) r = derived-below rows (v + 1) r (summed v a b r d.0 g.0 d.1 g.1 (k, l, low, total)) in
    (k, l, low.cancels.left, low.cancels.right, low.cancels.none, subst (λ z. pos 0 ≤ℤ z) {y = k *ℤ room p a v +ℤ l *ℤ room p b v} (room_sum p.q (valuation p.values) v k l a b r total) (some_room p.q (valuation p.values) v r none here))
