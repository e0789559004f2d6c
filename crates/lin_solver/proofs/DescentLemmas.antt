-- Laws of the whole way back.
use Rattle.std.specs.Prelude.{◌≡◌, ℕ, zero, suc, ◌+◌, ◌-◌, ◌≤◌, ◌<◌, ℤ, pos, ◌*ℤ◌, ◌≤ℤ◌, List, [], ◌∷◌, drop, length, get_or, All, refl}
use Rattle.std.proofs.Common.{sym, ap, ◌∙◌, subst, arith, inl, inr, ⊎_elim}
use Rattle.std.proofs.lemmas.Int.{ints}
use Rattle.std.proofs.lemmas.Bool.{cases_lt}
use Rattle.std.proofs.lemmas.Nat.Gcd.{le_of_dvd}
use Rattle.std.proofs.lemmas.Option.{slice_get-get_or}
use Rattle.std.proofs.lemmas.List.{drop_more}
use Rattle.std.proofs.lemmas.List.Elements.{All-nil, All-weaker, All-contains}
use Rattle.lin_rows.specs.declared.row.Row.{Row}
use Rattle.lin_rows.specs.declared.step.ComboStep.{ComboStep}
use Rattle.lin_rows.specs.declared.point.Point.{Point}
use Rattle.lin_rows.specs.Terms.{coef_at, value_at}
use Rattle.lin_rows.specs.Derived.{Occurs}
use Rattle.lin_rows.specs.DerivedLaws.{derived-below, derived-absent}
use Rattle.lin_rows.specs.TermLaws.{value-same}
use Rattle.lin_rows.specs.Points.{valuation, Lists}
use Rattle.lin_solver.specs.declared.levels.Level.{Level}
use Rattle.lin_solver.specs.Numbers.{HasRow, HaveRows, Implies, FollowsFrom, IsLive, BoundsAbove, BoundsBelow}
use Rattle.lin_solver.specs.Variables.{HasNoneFrom, HasNoneBetween, IsNextVariable}
use Rattle.lin_solver.specs.Levels.{IsKept, IsLevel, AreLevels, AreLevelsOf}
use Rattle.lin_solver.specs.WayBack.{IsMetAt, IsSolution, IsOnWay, HasNoneBelow, IsReady, IsReached}
use Rattle.lin_solver.proofs.NumberLemmas.{one_row, at_given, have_weaker}
use Rattle.lin_solver.proofs.WayLemmas.{met_implied}

-- The point is one of the variables from the levels' first on, and meets the rows that are live there,
-- which have no lower variable.
abbrev pub Reaches : List Row → List ComboStep → List Level → Point → Type 0
Reaches rows steps levels p = (from : ℕ) (live : List ℕ) → AreLevels rows steps from live levels → IsOnWay rows from p × HaveRows rows steps (λ r. IsMetAt p r × HasNoneBelow from r) live

abbrev pub start : Point
start = record { q = pos 1; values = [] }

-- no level is left
no_variable : (rows : List Row) (from v : ℕ) → All (λ r. HasNoneFrom from r.coefs) rows → from ≤ v → Occurs rows v → ⊥
no_variable rows from v none le (r, there, has) = has (All-contains (λ s. HasNoneFrom from s.coefs) rows r none there v le)

start_on_way : (rows : List Row) (from : ℕ) → All (λ r. HasNoneFrom from r.coefs) rows → IsOnWay rows from start
start_on_way rows from none = record {
  variables = record {
    listed = λ v is. absurd (no_variable rows from v none is.0 is.1);
    no_other = All-nil (λ t. (from ≤ t.0) × Occurs rows t.0);
    once = λ i j d lt within. absurd (omega arith);
  };
  positive = one_le;
  reduced = λ d one each. le_of_dvd some one;
  way = λ k d lt. absurd (omega arith);
}
  where
    one_le : pos 1 ≤ℤ pos 1
    one_le = omega (arith, ints)

    some : 0 < 1
    some = omega arith

start_meets : (rows : List Row) (from : ℕ) (r : Row) → All (λ s. HasNoneFrom from s.coefs) rows → IsLive rows from r → IsMetAt start r × HasNoneBelow from r
start_meets rows from r none (d, may) =
    (met (value_at (valuation []) r.coefs) r.bound (value-same (valuation []) r.coefs [] no_term) (may no_term), derived-below rows from r d)
  where
    no_term : (w : ℕ) → coef_at r.coefs w ≡ pos 0
    no_term w = ⊎_elim
        (λ (lt : w < from). derived-below rows from r d w lt)
        (λ (le : from ≤ w). derived-absent rows from r w (All-weaker (λ s. HasNoneFrom from s.coefs) (λ s. coef_at s.coefs w ≡ pos 0) (λ s h. h w le) rows none) d)
        (cases_lt w from)

    met : (a b : ℤ) → a ≡ pos 0 → pos 0 ≤ℤ b → a ≤ℤ (b *ℤ pos 1)
    met a b e h = omega (arith, ints)

pub reaches_none : (rows : List Row) (steps : List ComboStep) → Reaches rows steps [] start
reaches_none rows steps from live (have, none) =
    (start_on_way rows from none, have_weaker rows steps (IsLive rows from) (λ r. IsMetAt start r × HasNoneBelow from r) live (λ r h. start_meets rows from r none h) have)

-- what the next step needs
pub level_ready : (rows : List Row) (steps : List ComboStep) (from : ℕ) (live : List ℕ) (level : Level) (levels : List Level) (p : Point) → AreLevels rows steps from live (level ∷ levels) → Reaches rows steps levels p → IsReady rows steps level p
level_ready rows steps from live level levels p (variable, (next, is, rest)) reaches =
    let (on, met) = reaches (level.var + 1) next rest in record {
      occurs = variable.occurs;
      above = is.above;
      below = is.below;
      sums = (next, is.sums, have_weaker rows steps (λ r. IsMetAt p r × HasNoneBelow (level.var + 1) r) (IsMetAt p) next (λ r h. h.0) met);
      point = on;
    }

-- a point from a variable on is one from the least that isn't below a number
lists_from : (rows : List Row) (from v : ℕ) (p : Point) → IsNextVariable rows from v → Lists p (λ u. (v ≤ u) × Occurs rows u) → Lists p (λ u. (from ≤ u) × Occurs rows u)
lists_from rows from v p next lists = record {
  listed = λ u is. lists.listed u (
    ⊎_elim
        (λ (lt : u < v). absurd (none u is.0 lt is.1))
        (λ (le : v ≤ u). le)
        (cases_lt u v),
    is.1,
  );
  no_other = All-weaker (λ t. (v ≤ t.0) × Occurs rows t.0) (λ t. (from ≤ t.0) × Occurs rows t.0) (λ t h. (trans from v t.0 next.from h.0, h.1)) p.values lists.no_other;
  once = lists.once;
}
  where
    none : (u : ℕ) → from ≤ u → u < v → Occurs rows u → ⊥
    none u le lt (r, there, has) = has (All-contains (λ s. HasNoneBetween from v s.coefs) rows r next.least there u le lt)

    trans : (a b c : ℕ) → a ≤ b → b ≤ c → a ≤ c
    trans a b c p q = omega arith

on_way_from : (rows : List Row) (from v : ℕ) (p : Point) → IsNextVariable rows from v → IsOnWay rows v p → IsOnWay rows from p
on_way_from rows from v p next on = record {
  variables = lists_from rows from v p next on.variables;
  positive = on.positive;
  reduced = on.reduced;
  way = on.way;
}

none_lower : (m n : ℕ) (r : Row) → m ≤ n → HasNoneBelow n r → HasNoneBelow m r
none_lower m n r le none w lt = none w (omega arith)

none_implied : (n : ℕ) (s r : Row) → Implies s r → HasNoneBelow n s → HasNoneBelow n r
none_implied n s r (same, le) none w lt = ap (λ c. coef_at c w) (sym same) ∙ none w lt

-- each live row is met once the level's variable has its value
part_met : (rows : List Row) (steps : List ComboStep) (from : ℕ) (live : List ℕ) (level : Level) (next : List ℕ) (p p' : Point) (i : ℕ) → from ≤ level.var → IsLevel rows steps live level next → HaveRows rows steps (λ r. IsMetAt p r × HasNoneBelow (level.var + 1) r) next → IsReached rows steps level p p' → IsKept rows steps level.above level.below next i → HasRow rows steps (λ r. IsMetAt p' r × HasNoneBelow from r) i
part_met rows steps from live level next p p' i le is met reached (inl h) =
    let (r, at, bounds) = All-contains (HasRow rows steps (BoundsAbove rows level.var)) level.above i is.above h in
    let here = one_row rows steps (IsMetAt p') i r at (All-contains (HasRow rows steps (IsMetAt p')) level.above i reached.above h) in
    (r, at, (here, none_lower from level.var r le (derived-below rows level.var r bounds.0)))
part_met rows steps from live level next p p' i le is met reached (inr (inl h)) =
    let (r, at, bounds) = All-contains (HasRow rows steps (BoundsBelow rows level.var)) level.below i is.below h in
    let here = one_row rows steps (IsMetAt p') i r at (All-contains (HasRow rows steps (IsMetAt p')) level.below i reached.below h) in
    (r, at, (here, none_lower from level.var r le (derived-below rows level.var r bounds.0)))
part_met rows steps from live level next p p' i le is met reached (inr (inr (r, at, (n, there, (s, f, implies))))) =
    let (here, none) = one_row rows steps (λ r. IsMetAt p r × HasNoneBelow (level.var + 1) r) n s f (All-contains (HasRow rows steps (λ r. IsMetAt p r × HasNoneBelow (level.var + 1) r)) next n met there) in
    (r, at, (met_implied p' s r reached.on_way.positive implies (reached.later s none here), none_implied from s r implies (none_lower from (level.var + 1) s (up_one from level.var le) none)))
  where
    up_one : (m n : ℕ) → m ≤ n → m ≤ n + 1
    up_one m n le = omega arith

pub reaches_more : (rows : List Row) (steps : List ComboStep) (level : Level) (levels : List Level) (p p' : Point) → Reaches rows steps levels p → IsReached rows steps level p p' → Reaches rows steps (level ∷ levels) p'
reaches_more rows steps level levels p p' reaches reached from live (variable, (next, is, rest)) =
    let (on, met) = reaches (level.var + 1) next rest in (
      on_way_from rows from level.var p' variable reached.on_way,
      All-weaker (IsKept rows steps level.above level.below next) (HasRow rows steps (λ r. IsMetAt p' r × HasNoneBelow from r)) (λ i h. part_met rows steps from live level next p p' i variable.from is met reached h) live is.parts,
    )

-- the levels from one on are levels
pub levels_at : (rows : List Row) (steps : List ComboStep) (from : ℕ) (live : List ℕ) (levels : List Level) (i : ℕ) → i ≤ length levels → AreLevels rows steps from live levels → (from' : ℕ) × (live' : List ℕ) × AreLevels rows steps from' live' (drop i levels)
levels_at rows steps from live levels zero le are = (from, live, are)
levels_at rows steps from live [] (suc i) le are = absurd (omega arith)
levels_at rows steps from live (level ∷ levels) (suc i) le (variable, (next, is, rest)) =
    levels_at rows steps (level.var + 1) next levels i (omega arith) rest

-- the level before those that are done
pub level_at : (levels : List Level) (left : ℕ) (d level : Level) → 0 < left → left ≤ length levels → level ≡ get_or levels (left - 1) d → drop (left - 1) levels ≡ level ∷ drop left levels
level_at levels left d level some le is =
    drop_more levels (left - 1) d (less left (length levels) some le) ∙ ap (λ l. l ∷ drop (left - 1 + 1) levels) (sym is) ∙ ap (λ i. level ∷ drop i levels) (back left some)
  where
    less : (m n : ℕ) → 0 < m → m ≤ n → m - 1 < n
    less m n some le = omega arith

    back : (m : ℕ) → 0 < m → m - 1 + 1 ≡ m
    back m some = omega arith

pub ready_at : (rows : List Row) (steps : List ComboStep) (levels : List Level) (left : ℕ) (d level : Level) (p : Point) → AreLevelsOf rows steps levels → 0 < left → left ≤ length levels → level ≡ get_or levels (left - 1) d → Reaches rows steps (drop left levels) p → IsReady rows steps level p
ready_at rows steps levels left d level p (first, all, are) some le is reaches =
    let (from, live, here) = levels_at rows steps 0 first levels (left - 1) (omega arith) are in
    level_ready rows steps from live level (drop left levels) p (subst (AreLevels rows steps from live) (level_at levels left d level some le is) here) reaches

pub reaches_at : (rows : List Row) (steps : List ComboStep) (levels : List Level) (left : ℕ) (d level : Level) (p p' : Point) → 0 < left → left ≤ length levels → level ≡ get_or levels (left - 1) d → Reaches rows steps (drop left levels) p → IsReached rows steps level p p' → Reaches rows steps (drop (left - 1) levels) p'
reaches_at rows steps levels left d level p p' some le is reaches reached =
    subst (λ ls. Reaches rows steps ls p') (sym (level_at levels left d level some le is)) (reaches_more rows steps level (drop left levels) p p' reaches reached)

pub reaches_end : (rows : List Row) (steps : List ComboStep) (levels : List Level) (values : List (ℕ × ℤ)) → values ≡ [] → Reaches rows steps (drop (length levels) levels) (record { q = pos 1; values = values })
reaches_end rows steps levels values e =
    subst (λ us. Reaches rows steps (drop (length levels) levels) (record { q = pos 1; values = us })) (sym e) (subst (λ ls. Reaches rows steps ls start) (sym (none_left levels)) (reaches_none rows steps))
  where
    none_left : (levels : List Level) → drop (length levels) levels ≡ []
    none_left [] = refl
    none_left (l ∷ ls) = none_left ls

-- the whole way
pub solution : (rows : List Row) (steps : List ComboStep) (levels : List Level) (p : Point) → AreLevelsOf rows steps levels → Reaches rows steps levels p → IsSolution rows p
solution rows steps levels p (first, all, are) reaches =
    let (on, met) = reaches 0 first are in (
      on.positive,
      λ k d lt.
          let r = get_or rows k d in
          let (n, there, (s, f, implies)) = one_row rows steps (FollowsFrom rows steps first) k r (at_given rows steps k r (slice_get-get_or rows k d lt)) (all k lt) in
          met_implied p s r on.positive implies (one_row rows steps (λ r. IsMetAt p r × HasNoneBelow 0 r) n s f (All-contains (HasRow rows steps (λ r. IsMetAt p r × HasNoneBelow 0 r)) first n met there)).0,
    )
