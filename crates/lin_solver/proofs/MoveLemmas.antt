-- Laws of the value that a level's variable gets.
use Rattle.std.specs.Prelude.{◌≡◌, ◌≢◌, ℕ, ◌+◌, ◌<◌, ℤ, pos, ◌+ℤ◌, ◌*ℤ◌, ◌≤ℤ◌, ◌<ℤ◌, List, [], ◌∷◌, ◌++◌, Some, slice_get, get_or, refl}
use Rattle.std.proofs.Common.{sym, ap, ◌∙◌, subst, arith, inl, inr}
use Rattle.std.proofs.lemmas.Int.{ints}
use Rattle.std.proofs.lemmas.List.Elements.{All-contains, Contains-get_or}
use Rattle.std.proofs.lemmas.Nat.Gcd.{le_of_dvd}
use Rattle.lin_rows.specs.declared.row.Row.{Row}
use Rattle.lin_rows.specs.declared.step.ComboStep.{ComboStep}
use Rattle.lin_rows.specs.declared.point.Point.{Point}
use Rattle.lin_rows.specs.Terms.{coef_at}
use Rattle.lin_rows.specs.Derived.{Occurs}
use Rattle.lin_rows.specs.WidePoints.{IsWideBound, Extends}
use Rattle.lin_solver.specs.declared.levels.Level.{Level}
use Rattle.lin_solver.specs.declared.worst.Violation.{Violation}
use Rattle.lin_solver.specs.Numbers.{numbered, HasRow, HaveRows, Bounds, BoundsAbove, BoundsBelow}
use Rattle.lin_solver.specs.WayBack.{IsMetAt, IsOnWay, room, IsAtMost, IsWorst, IsWideAt, IsReached, scaled, extension, IsAtBound, HasWideBound, HasNoneBelow, AreSumsMet}
use Rattle.lin_solver.proofs.NumberLemmas.{one_row, have_weaker}
use Rattle.lin_solver.proofs.BoundLemmas.{meets_same_above, meets_same_below, meets_other}
use Rattle.lin_solver.proofs.WayLemmas.{point_from, met_later, met_here, tight_here, extends_way, extends_point, rooms_together}

-- the values in the same unit
pub scaled_once : (ts : List (ℕ × ℤ)) → ts ≡ scaled (pos 1) ts
scaled_once [] = refl
scaled_once (t ∷ ts) = ap (λ z. (t.0, z) ∷ ts) (once t.1) ∙ ap (λ us. (t.0, t.1 *ℤ pos 1) ∷ us) (scaled_once ts)
  where
    once : (z : ℤ) → z ≡ z *ℤ pos 1
    once z = omega (arith, ints)

abbrev point_of : ℤ → List (ℕ × ℤ) → Point
point_of q values = record { q = q; values = values }

pub stays : (p : Point) (v : ℕ) (values : List (ℕ × ℤ)) → values ≡ p.values ++ (v, pos 0) ∷ [] → point_of p.q values ≡ extension p (pos 1) v (pos 0)
stays p v values e =
    ap (λ us. point_of p.q us) (e ∙ ap (λ us. us ++ (v, pos 0) ∷ []) (scaled_once p.values)) ∙ ap (λ z. point_of z (scaled (pos 1) p.values ++ (v, pos 0) ∷ [])) (once p.q)
  where
    once : (z : ℤ) → z ≡ z *ℤ pos 1
    once z = omega (arith, ints)

-- the way back with the bound of a row
bound_on_way : (rows : List Row) (p : Point) (n c : ℤ) (v : ℕ) (p' : Point) (r : Row) → Occurs rows v → IsOnWay rows (v + 1) p → Bounds rows v r → c ≡ coef_at r.coefs v → n ≡ room p r v → IsAtBound p n c v p' → IsOnWay rows v p' × Extends p r v p'
bound_on_way rows p n c v p' r occurs on bounds coef left is =
    let e : coef_at r.coefs v *ℤ is.z ≡ room p r v *ℤ is.s = ap (λ k. k *ℤ is.z) (sym coef) ∙ is.bound ∙ ap (λ k. k *ℤ is.s) left in
    let tight = tight_here rows p is.s is.z v r on bounds.0 e in (
      subst (IsOnWay rows v) (sym is.point) (extends_way rows p is.s is.z v occurs on is.positive is.lowest (inr (r, bounds.0, bounds.1, tight))),
      subst (Extends p r v) (sym is.point) (extends_point rows p is.s is.z v r on tight),
    )

-- the row of the worst number
worst_row : {P : Row → Type 0} (rows : List Row) (steps : List ComboStep) (p : Point) (v : ℕ) (numbers : List ℕ) (w : Violation) → HaveRows rows steps P numbers → IsWorst rows steps p v numbers w → (r : Row) × (slice_get (numbered rows steps) w.number ≡ Some (Some r)) × P r × (w.coef ≡ coef_at r.coefs v) × (w.room ≡ room p r v)
worst_row {P} rows steps p v numbers w have is =
    let (r, at, (coef, left)) = is.row in
    (r, at, one_row rows steps P w.number r at (All-contains (HasRow rows steps P) numbers w.number have is.among), coef, left)

pub moved_on_way : (rows : List Row) (steps : List ComboStep) (p : Point) (v : ℕ) (numbers : List ℕ) (w : Violation) (p' : Point) → Occurs rows v → IsOnWay rows (v + 1) p → HaveRows rows steps (Bounds rows v) numbers → IsWorst rows steps p v numbers w → IsAtBound p w.room w.coef v p' → IsOnWay rows v p'
moved_on_way rows steps p v numbers w p' occurs on have is at =
    let (r, there, bounds, coef, left) = worst_row {P = Bounds rows v} rows steps p v numbers w have is in
    (bound_on_way rows p w.room w.coef v p' r occurs on bounds coef left at).0

-- where a number of the moved point is too wide
pub moved_wide : (rows : List Row) (steps : List ComboStep) (p : Point) (v : ℕ) (numbers : List ℕ) (w : Violation) → Occurs rows v → IsOnWay rows (v + 1) p → HaveRows rows steps (Bounds rows v) numbers → IsWorst rows steps p v numbers w → HasWideBound p w.room w.coef v → HasRow rows steps (λ r. IsWideBound rows p r v) w.number
moved_wide rows steps p v numbers w occurs on have is (p', at, wide) =
    let (r, there, bounds, coef, left) = worst_row {P = Bounds rows v} rows steps p v numbers w have is in
    let (on', follows) = bound_on_way rows p w.room w.coef v p' r occurs on bounds coef left at in (
      r,
      there,
      record {
        derived = bounds.0;
        has = bounds.1;
        after = point_from rows (v + 1) p on;
        way = on.way;
        wide = inr (p', point_from rows v p' on', follows, wide);
      },
    )

-- or a number on the way to a room
pub room_wide : (rows : List Row) (steps : List ComboStep) (p : Point) (v : ℕ) (numbers : List ℕ) (i : ℕ) → IsOnWay rows (v + 1) p → HaveRows rows steps (Bounds rows v) numbers → IsWideAt rows steps p v numbers i → HasRow rows steps (λ r. IsWideBound rows p r v) i
room_wide rows steps p v numbers i on have is =
    let (r, there, wide) = is.row in
    let bounds = one_row rows steps (Bounds rows v) i r there (All-contains (HasRow rows steps (Bounds rows v)) numbers i have is.among) in (
      r,
      there,
      record {
        derived = bounds.0;
        has = bounds.1;
        after = point_from rows (v + 1) p on;
        way = on.way;
        wide = inl wide;
      },
    )

-- rows that bound from one side have the variable
pub bounds_above : (rows : List Row) (steps : List ComboStep) (v : ℕ) (numbers : List ℕ) → HaveRows rows steps (BoundsAbove rows v) numbers → HaveRows rows steps (Bounds rows v) numbers
bounds_above rows steps v numbers = have_weaker rows steps (BoundsAbove rows v) (Bounds rows v) numbers (λ r h. (h.0, λ e. some (coef_at r.coefs v) h.1 e))
  where
    some : (z : ℤ) → pos 0 <ℤ z → z ≡ pos 0 → ⊥
    some z h e = omega (arith, ints)

pub bounds_below : (rows : List Row) (steps : List ComboStep) (v : ℕ) (numbers : List ℕ) → HaveRows rows steps (BoundsBelow rows v) numbers → HaveRows rows steps (Bounds rows v) numbers
bounds_below rows steps v numbers = have_weaker rows steps (BoundsBelow rows v) (Bounds rows v) numbers (λ r h. (h.0, λ e. some (coef_at r.coefs v) h.1 e))
  where
    some : (z : ℤ) → z <ℤ pos 0 → z ≡ pos 0 → ⊥
    some z h e = omega (arith, ints)

not_negative : (s : ℤ) → pos 1 ≤ℤ s → pos 0 ≤ℤ s
not_negative s h = omega (arith, ints)

-- the worst bound from above meets the rows that bound from above, and those that bound from below
pub above_meets_same : (rows : List Row) (steps : List ComboStep) (p : Point) (v : ℕ) (above : List ℕ) (w : Violation) (p' : Point) → IsOnWay rows (v + 1) p → HaveRows rows steps (BoundsAbove rows v) above → IsWorst rows steps p v above w → IsAtBound p w.room w.coef v p' → HaveRows rows steps (IsMetAt p') above
above_meets_same rows steps p v above w p' on have is at = λ k d lt.
    let (a, there, bounds, coef, left) = worst_row {P = BoundsAbove rows v} rows steps p v above w have is in
    let (r, here, sign) = have k d lt in
    let le = one_row rows steps (λ s. IsAtMost w.room w.coef (room p s v) (coef_at s.coefs v)) _ r here (is.worst k d lt) in
    let positive : pos 0 <ℤ w.coef = subst (λ z. pos 0 <ℤ z) (sym coef) bounds.1 in
    (r, here, subst (λ q. IsMetAt q r) (sym at.point) (met_here rows p at.s at.z v r on sign.0 (meets_same_above w.coef (coef_at r.coefs v) w.room (room p r v) at.z at.s positive sign.1 (not_negative at.s at.positive) at.bound le)))

pub below_meets_same : (rows : List Row) (steps : List ComboStep) (p : Point) (v : ℕ) (below : List ℕ) (w : Violation) (p' : Point) → IsOnWay rows (v + 1) p → HaveRows rows steps (BoundsBelow rows v) below → IsWorst rows steps p v below w → IsAtBound p w.room w.coef v p' → HaveRows rows steps (IsMetAt p') below
below_meets_same rows steps p v below w p' on have is at = λ k d lt.
    let (a, there, bounds, coef, left) = worst_row {P = BoundsBelow rows v} rows steps p v below w have is in
    let (r, here, sign) = have k d lt in
    let le = one_row rows steps (λ s. IsAtMost w.room w.coef (room p s v) (coef_at s.coefs v)) _ r here (is.worst k d lt) in
    let negative : w.coef <ℤ pos 0 = subst (λ z. z <ℤ pos 0) (sym coef) bounds.1 in
    (r, here, subst (λ q. IsMetAt q r) (sym at.point) (met_here rows p at.s at.z v r on sign.0 (meets_same_below w.coef (coef_at r.coefs v) w.room (room p r v) at.z at.s negative sign.1 (not_negative at.s at.positive) at.bound le)))

pub above_meets_other : (rows : List Row) (steps : List ComboStep) (p : Point) (v : ℕ) (above below : List ℕ) (w : Violation) (p' : Point) → IsOnWay rows (v + 1) p → AreSumsMet rows steps p v above below → HaveRows rows steps (BoundsAbove rows v) above → HaveRows rows steps (BoundsBelow rows v) below → IsWorst rows steps p v above w → IsAtBound p w.room w.coef v p' → HaveRows rows steps (IsMetAt p') below
above_meets_other rows steps p v above below w p' on sums have_above have_below is at = λ k d lt.
    let (a, there, up, coef, left) = worst_row {P = BoundsAbove rows v} rows steps p v above w have_above is in
    let (b, here, down) = have_below k d lt in
    let (i, j, some_i, some_j, none, together) = rooms_together rows steps p v w.number (get_or below k d) a b above below on.positive sums is.among (Contains-get_or below k d lt) there here up down in
    let none' : i *ℤ w.coef +ℤ j *ℤ coef_at b.coefs v ≡ pos 0 = ap (λ z. i *ℤ z +ℤ j *ℤ coef_at b.coefs v) coef ∙ none in
    let together' : pos 0 ≤ℤ (i *ℤ w.room +ℤ j *ℤ room p b v) = subst (λ z. pos 0 ≤ℤ (i *ℤ z +ℤ j *ℤ room p b v)) (sym left) together in
    (b, here, subst (λ q. IsMetAt q b) (sym at.point) (met_here rows p at.s at.z v b on down.0 (meets_other w.coef (coef_at b.coefs v) w.room (room p b v) at.z at.s i j some_j (not_negative at.s at.positive) none' at.bound together')))

pub below_meets_other : (rows : List Row) (steps : List ComboStep) (p : Point) (v : ℕ) (above below : List ℕ) (w : Violation) (p' : Point) → IsOnWay rows (v + 1) p → AreSumsMet rows steps p v above below → HaveRows rows steps (BoundsAbove rows v) above → HaveRows rows steps (BoundsBelow rows v) below → IsWorst rows steps p v below w → IsAtBound p w.room w.coef v p' → HaveRows rows steps (IsMetAt p') above
below_meets_other rows steps p v above below w p' on sums have_above have_below is at = λ k d lt.
    let (b, there, down, coef, left) = worst_row {P = BoundsBelow rows v} rows steps p v below w have_below is in
    let (a, here, up) = have_above k d lt in
    let (i, j, some_i, some_j, none, together) = rooms_together rows steps p v (get_or above k d) w.number a b above below on.positive sums (Contains-get_or above k d lt) is.among here there up down in
    let none' : j *ℤ w.coef +ℤ i *ℤ coef_at a.coefs v ≡ pos 0 = turn (j *ℤ w.coef) (i *ℤ coef_at a.coefs v) ∙ ap (λ z. i *ℤ coef_at a.coefs v +ℤ j *ℤ z) coef ∙ none in
    let together' : pos 0 ≤ℤ (j *ℤ w.room +ℤ i *ℤ room p a v) = subst (λ z. pos 0 ≤ℤ z) (turn (i *ℤ room p a v) (j *ℤ w.room)) (subst (λ z. pos 0 ≤ℤ (i *ℤ room p a v +ℤ j *ℤ z)) (sym left) together) in
    (a, here, subst (λ q. IsMetAt q a) (sym at.point) (met_here rows p at.s at.z v a on up.0 (meets_other w.coef (coef_at a.coefs v) w.room (room p a v) at.z at.s j i some_i (not_negative at.s at.positive) none' at.bound together')))
  where
    turn : (x y : ℤ) → x +ℤ y ≡ y +ℤ x
    turn x y = omega (arith, ints)

-- rows of later variables stay met
pub moved_later : (p : Point) (n c : ℤ) (v : ℕ) (p' : Point) (r : Row) → IsAtBound p n c v p' → HasNoneBelow (v + 1) r → IsMetAt p r → IsMetAt p' r
moved_later p n c v p' r at none met =
    subst (λ q. IsMetAt q r) (sym at.point) (met_later p at.s at.z v r at.positive none met)

-- the value 0
pub stays_on_way : (rows : List Row) (p : Point) (v : ℕ) (p' : Point) → Occurs rows v → IsOnWay rows (v + 1) p → p' ≡ extension p (pos 1) v (pos 0) → IsOnWay rows v p'
stays_on_way rows p v p' occurs on e =
    subst (IsOnWay rows v) (sym e) (extends_way rows p (pos 1) (pos 0) v occurs on one_le (λ d one none. le_of_dvd some one) (inl refl))
  where
    one_le : pos 1 ≤ℤ pos 1
    one_le = omega (arith, ints)

    some : 0 < 1
    some = omega arith

pub stays_met : (rows : List Row) (steps : List ComboStep) (p : Point) (v : ℕ) (numbers : List ℕ) (p' : Point) → IsOnWay rows (v + 1) p → HaveRows rows steps (Bounds rows v) numbers → HaveRows rows steps (λ r. pos 0 ≤ℤ room p r v) numbers → p' ≡ extension p (pos 1) v (pos 0) → HaveRows rows steps (IsMetAt p') numbers
stays_met rows steps p v numbers p' on have met e = λ k d lt.
    let (r, here, bounds) = have k d lt in
    let some = one_row rows steps (λ s. pos 0 ≤ℤ room p s v) _ r here (met k d lt) in
    (r, here, subst (λ q. IsMetAt q r) (sym e) (met_here rows p (pos 1) (pos 0) v r on bounds.0 (fits (coef_at r.coefs v) (room p r v) some)))
  where
    fits : (c m : ℤ) → pos 0 ≤ℤ m → (c *ℤ pos 0) ≤ℤ (m *ℤ pos 1)
    fits c m h = omega (arith, ints)

pub stays_later : (p : Point) (v : ℕ) (p' : Point) (r : Row) → p' ≡ extension p (pos 1) v (pos 0) → HasNoneBelow (v + 1) r → IsMetAt p r → IsMetAt p' r
stays_later p v p' r e none met =
    subst (λ q. IsMetAt q r) (sym e) (met_later p (pos 1) (pos 0) v r one_le none met)
  where
    one_le : pos 1 ≤ℤ pos 1
    one_le = omega (arith, ints)

-- the level's variable at the worst bound from above, from below, or at 0
pub reached_above : (rows : List Row) (steps : List ComboStep) (level : Level) (p : Point) (w : Violation) (p' : Point) → Occurs rows level.var → IsOnWay rows (level.var + 1) p → AreSumsMet rows steps p level.var level.above level.below → HaveRows rows steps (BoundsAbove rows level.var) level.above → HaveRows rows steps (BoundsBelow rows level.var) level.below → IsWorst rows steps p level.var level.above w → IsAtBound p w.room w.coef level.var p' → IsReached rows steps level p p'
reached_above rows steps level p w p' occurs on sums above below is at = record {
  on_way = moved_on_way rows steps p level.var level.above w p' occurs on (bounds_above rows steps level.var level.above above) is at;
  above = above_meets_same rows steps p level.var level.above w p' on above is at;
  below = above_meets_other rows steps p level.var level.above level.below w p' on sums above below is at;
  later = λ r. moved_later p w.room w.coef level.var p' r at;
}

pub reached_below : (rows : List Row) (steps : List ComboStep) (level : Level) (p : Point) (w : Violation) (p' : Point) → Occurs rows level.var → IsOnWay rows (level.var + 1) p → AreSumsMet rows steps p level.var level.above level.below → HaveRows rows steps (BoundsAbove rows level.var) level.above → HaveRows rows steps (BoundsBelow rows level.var) level.below → IsWorst rows steps p level.var level.below w → IsAtBound p w.room w.coef level.var p' → IsReached rows steps level p p'
reached_below rows steps level p w p' occurs on sums above below is at = record {
  on_way = moved_on_way rows steps p level.var level.below w p' occurs on (bounds_below rows steps level.var level.below below) is at;
  above = below_meets_other rows steps p level.var level.above level.below w p' on sums above below is at;
  below = below_meets_same rows steps p level.var level.below w p' on below is at;
  later = λ r. moved_later p w.room w.coef level.var p' r at;
}

pub reached_none : (rows : List Row) (steps : List ComboStep) (level : Level) (p p' : Point) → Occurs rows level.var → IsOnWay rows (level.var + 1) p → HaveRows rows steps (BoundsAbove rows level.var) level.above → HaveRows rows steps (BoundsBelow rows level.var) level.below → HaveRows rows steps (λ r. pos 0 ≤ℤ room p r level.var) level.above → HaveRows rows steps (λ r. pos 0 ≤ℤ room p r level.var) level.below → p' ≡ extension p (pos 1) level.var (pos 0) → IsReached rows steps level p p'
reached_none rows steps level p p' occurs on above below met_above met_below e = record {
  on_way = stays_on_way rows p level.var p' occurs on e;
  above = stays_met rows steps p level.var level.above p' on (bounds_above rows steps level.var level.above above) met_above e;
  below = stays_met rows steps p level.var level.below p' on (bounds_below rows steps level.var level.below below) met_below e;
  later = λ r. stays_later p level.var p' r e;
}

pub worst_coef : (rows : List Row) (steps : List ComboStep) (p : Point) (v : ℕ) (numbers : List ℕ) (w : Violation) → HaveRows rows steps (Bounds rows v) numbers → IsWorst rows steps p v numbers w → w.coef ≢ pos 0
worst_coef rows steps p v numbers w have is none =
    let (r, there, bounds, coef, left) = worst_row {P = Bounds rows v} rows steps p v numbers w have is in
    bounds.1 (sym coef ∙ none)
