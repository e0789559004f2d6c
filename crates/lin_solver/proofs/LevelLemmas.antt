-- Laws of levels.
use Rattle.std.specs.Prelude.{◌≡◌, ℕ, ◌+◌, ◌≤◌, ◌<◌, pos, List, [], ◌∷◌, ◌++◌, length, All}
use Rattle.std.proofs.Common.{sym, ap, ◌∙◌, subst, arith, append_assoc, append-nil, ⊎_elim, ◌-◌, inl, inr}
use Rattle.std.proofs.lemmas.Bool.{cases_lt}
use Rattle.std.proofs.lemmas.List.Elements.{All-weaker, All-contains}
use Rattle.lin_rows.specs.declared.row.Row.{Row}
use Rattle.lin_rows.specs.declared.step.ComboStep.{ComboStep}
use Rattle.lin_rows.specs.Terms.{coef_at}
use Rattle.lin_rows.specs.Derived.{Derived}
use Rattle.lin_rows.specs.DerivedLaws.{derived-below, derived-absent, derived-later}
use Rattle.lin_solver.specs.Numbers.{HasRow, HaveRows, FollowsFrom, IsLive, BoundsAbove, BoundsBelow, IsPrefix}
use Rattle.lin_solver.specs.Variables.{HasNoneFrom, HasNoneBetween, IsNextVariable}
use Rattle.lin_solver.specs.Levels.{IsInPart, IsKept, IsLevel, AreLevels}
use Rattle.lin_solver.specs.declared.levels.Level.{Level}
use Rattle.lin_solver.proofs.NumberLemmas.{at_grows, have_grows, have_weaker, prefix_same, prefix_trans}
use Rattle.lin_solver.proofs.StepLemmas.{are_covered_grow, follows_grows}

-- a row that is derived before a number is derived before the next variable from there on
pub derived_next : (rows : List Row) (from v : ℕ) (r : Row) → IsNextVariable rows from v → Derived rows from r → Derived rows v r
derived_next rows from v r next d =
    let le : from ≤ v = next.from in
    let (n, is) = split from v le in
    subst (λ u. Derived rows u r) (sym is) (derived-later rows from n r d (λ w lt. either w (subst (λ u. w < u) (sym is) lt)))
  where
    split : (m v : ℕ) → m ≤ v → (n : ℕ) × (v ≡ m + n)
    split m v le = (v - m, omega arith)

    either : (w : ℕ) → w < v → coef_at r.coefs w ≡ pos 0
    either w lt = ⊎_elim
        (λ (low : w < from). derived-below rows from r d w low)
        (λ (high : from ≤ w). derived-absent rows from r w (All-weaker (λ s. HasNoneBetween from v s.coefs) (λ s. coef_at s.coefs w ≡ pos 0) (λ s h. h w high lt) rows next.least) d)
        (cases_lt w from)

pub live_next : (rows : List Row) (steps : List ComboStep) (from v : ℕ) (is : List ℕ) → IsNextVariable rows from v → HaveRows rows steps (IsLive rows from) is → HaveRows rows steps (IsLive rows v) is
live_next rows steps from v is next h =
    have_weaker rows steps (IsLive rows from) (IsLive rows v) is (λ r l. (derived_next rows from v r next l.0, l.1)) h

-- what is kept stays so over more steps
kept_grows : (rows : List Row) (old new : List ComboStep) (above below next : List ℕ) (i : ℕ) → IsPrefix old new → IsKept rows old above below next i → IsKept rows new above below next i
kept_grows rows old new above below next i p (inl h) = inl h
kept_grows rows old new above below next i p (inr (inl h)) = inr (inl h)
kept_grows rows old new above below next i p (inr (inr (r, e, f))) =
    inr (inr (r, at_grows rows old new i r p e, follows_grows rows old new next next r p (prefix_same next) f))

-- a number in a part of the live rows is kept where the numbers of the third part follow from others
pub part_kept : (rows : List Row) (steps : List ComboStep) (above below next others : List ℕ) (i : ℕ) → HaveRows rows steps (FollowsFrom rows steps others) next → IsInPart above below next i → IsKept rows steps above below others i
part_kept rows steps above below next others i all (inl h) = inl h
part_kept rows steps above below next others i all (inr (inl h)) = inr (inl h)
part_kept rows steps above below next others i all (inr (inr h)) =
    inr (inr (All-contains (HasRow rows steps (FollowsFrom rows steps others)) next i all h))

-- the rows that all follow at first follow over more steps
pub first_grows : (rows : List Row) (old new : List ComboStep) (first : List ℕ) → IsPrefix old new → ((i : ℕ) → i < length rows → HasRow rows old (FollowsFrom rows old first) i) → (i : ℕ) → i < length rows → HasRow rows new (FollowsFrom rows new first) i
first_grows rows old new first p all i lt =
    let (r, e, f) = all i lt in
    (r, at_grows rows old new i r p e, follows_grows rows old new first first r p (prefix_same first) f)

-- a level stays one over more steps
pub level_grows : (rows : List Row) (old new : List ComboStep) (live : List ℕ) (level : Level) (next : List ℕ) → IsPrefix old new → IsLevel rows old live level next → IsLevel rows new live level next
level_grows rows old new live level next p is = record {
  above = have_grows rows old new (BoundsAbove rows level.var) level.above p is.above;
  below = have_grows rows old new (BoundsBelow rows level.var) level.below p is.below;
  parts = All-weaker (IsKept rows old level.above level.below next) (IsKept rows new level.above level.below next) (λ i h. kept_grows rows old new level.above level.below next i p h) live is.parts;
  sums = are_covered_grow rows old new level.var level.above level.below next next p (prefix_same next) is.sums;
}

-- what is known on the way: levels from here on, over these or more steps, complete those so far
abbrev pub Leads : List Row → List ComboStep → List ℕ → List Level → ℕ → List ℕ → Type 0
Leads rows steps first levels from live = (new : List ComboStep) (more : List Level) → IsPrefix steps new → AreLevels rows new from live more → AreLevels rows new 0 first (levels ++ more)

pub leads_more : (rows : List Row) (old steps : List ComboStep) (first : List ℕ) (levels : List Level) (from v : ℕ) (live : List ℕ) (level : Level) (next : List ℕ) (levels' : List Level) → IsPrefix old steps → levels' ≡ levels ++ level ∷ [] → level.var ≡ v → IsNextVariable rows from v → IsLevel rows steps live level next → Leads rows old first levels from live → Leads rows steps first levels' (v + 1) next
leads_more rows old steps first levels from v live level next levels' p is e at here leads new more q rest =
    let at' = subst (λ u. IsNextVariable rows from u) (sym e) at in
    let rest' = subst (λ u. AreLevels rows new (u + 1) next more) (sym e) rest in
    subst (AreLevels rows new 0 first) (sym (ap (λ z. z ++ more) is ∙ append_assoc levels (level ∷ []) more)) (leads new (level ∷ more) (prefix_trans old steps new p q) (at', (next, level_grows rows steps new live level next q here, rest')))

-- no more levels
pub leads_last : (rows : List Row) (steps : List ComboStep) (first : List ℕ) (levels : List Level) (from : ℕ) (live : List ℕ) → HaveRows rows steps (IsLive rows from) live → All (λ r. HasNoneFrom from r.coefs) rows → Leads rows steps first levels from live → AreLevels rows steps 0 first levels
leads_last rows steps first levels from live here none leads =
    subst (AreLevels rows steps 0 first) (append-nil levels) (leads steps [] (prefix_same steps) (here, none))
