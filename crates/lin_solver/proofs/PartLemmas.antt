-- Laws of the parts of live rows.
use Rattle.std.specs.Prelude.{◌≡◌, ℕ, ◌+◌, pos, ◌<ℤ◌, List, Some, slice_get, All, Contains}
use Rattle.std.proofs.Common.{sym, subst, inl, inr}
use Rattle.std.proofs.lemmas.List.Elements.{All-weaker, Contains-append_left}
use Rattle.lin_rows.specs.declared.row.Row.{Row}
use Rattle.lin_rows.specs.declared.step.ComboStep.{ComboStep}
use Rattle.lin_rows.specs.Terms.{coef_at}
use Rattle.lin_rows.specs.Derived.{kept}
use Rattle.lin_solver.specs.Numbers.{numbered, HasRow, IsLive, BoundsAbove, BoundsBelow, IsPrefix}
use Rattle.lin_solver.specs.Levels.{IsInPart}
use Rattle.lin_solver.proofs.NumberLemmas.{one_row}

pub above_of : (rows : List Row) (steps : List ComboStep) (v i : ℕ) (r : Row) → slice_get (numbered rows steps) i ≡ Some (Some r) → HasRow rows steps (IsLive rows v) i → pos 0 <ℤ coef_at r.coefs v → HasRow rows steps (BoundsAbove rows v) i
above_of rows steps v i r e live sign =
    (r, e, ((one_row rows steps (IsLive rows v) i r e live).0, sign))

pub below_of : (rows : List Row) (steps : List ComboStep) (v i : ℕ) (r : Row) → slice_get (numbered rows steps) i ≡ Some (Some r) → HasRow rows steps (IsLive rows v) i → coef_at r.coefs v <ℤ pos 0 → HasRow rows steps (BoundsBelow rows v) i
below_of rows steps v i r e live sign =
    (r, e, ((one_row rows steps (IsLive rows v) i r e live).0, sign))

pub without_of : (rows : List Row) (steps : List ComboStep) (v i : ℕ) (r : Row) → slice_get (numbered rows steps) i ≡ Some (Some r) → HasRow rows steps (IsLive rows v) i → coef_at r.coefs v ≡ pos 0 → HasRow rows steps (IsLive rows (v + 1)) i
without_of rows steps v i r e live none =
    let (derived, true_) = one_row rows steps (IsLive rows v) i r e live in
    (r, e, (kept v r derived none, true_))

contains_grows : (xs ys : List ℕ) (i : ℕ) → IsPrefix xs ys → Contains xs i → Contains ys i
contains_grows xs ys i (zs, is) h = subst (λ z. Contains z i) (sym is) (Contains-append_left xs zs i h)

-- the parts grow
pub in_part_grows : (a b o a' b' o' : List ℕ) (i : ℕ) → IsPrefix a a' → IsPrefix b b' → IsPrefix o o' → IsInPart a b o i → IsInPart a' b' o' i
in_part_grows a b o a' b' o' i p q r (inl h) = inl (contains_grows a a' i p h)
in_part_grows a b o a' b' o' i p q r (inr (inl h)) = inr (inl (contains_grows b b' i q h))
in_part_grows a b o a' b' o' i p q r (inr (inr h)) = inr (inr (contains_grows o o' i r h))

pub all_in_part_grow : (a b o a' b' o' is : List ℕ) → IsPrefix a a' → IsPrefix b b' → IsPrefix o o' → All (IsInPart a b o) is → All (IsInPart a' b' o') is
all_in_part_grow a b o a' b' o' is p q r h =
    All-weaker (IsInPart a b o) (IsInPart a' b' o') (λ i x. in_part_grows a b o a' b' o' i p q r x) is h
