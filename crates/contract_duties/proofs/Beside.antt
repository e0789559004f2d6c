-- The locks of a heap, one by one.
use Rattle.std.specs.Prelude.{◌≡◌, ◌<◌, ◌+◌, ◌&&◌, ◌||◌, not, ℕ, suc, List, [], ◌∷◌, drop, length}
use Rattle.std.specs.List.{list_any}
use Rattle.std.proofs.Common.{refl, ap, ◌∙◌, arith}
use Rattle.std.proofs.lemmas.List.{drop_more}
use Rattle.machine_model.specs.declared.Object.{Object}
use Rattle.machine_model.specs.Heap.{owns}
use Rattle.machine_model.specs.Duties.{Duty, names_lock}
use Rattle.machine_model.specs.Moments.{owns_other}

step : (ds : List Duty) (heap : List Object) (t at : ℕ) (d : Object) → at < length heap
    → owns_other ds heap t at (drop at heap) ≡ ((owns heap t at && not (list_any (names_lock at) ds)) || owns_other ds heap t (at + 1) (drop (at + 1) heap))
step ds heap t at d l =
    let next : suc at ≡ at + 1 = omega arith in
    ap (owns_other ds heap t at) (drop_more heap at d l)
    ∙ ap (λ k. (owns heap t at && not (list_any (names_lock at) ds)) || owns_other ds heap t k (drop (at + 1) heap)) next

pub beside_step : (ds : List Duty) (heap : List Object) (t at : ℕ) → at < length heap
    → owns_other ds heap t at (drop at heap) ≡ ((owns heap t at && not (list_any (names_lock at) ds)) || owns_other ds heap t (at + 1) (drop (at + 1) heap))
beside_step ds heap t at l = of_list heap refl
  where
    of_list : (os : List Object) → heap ≡ os → owns_other ds heap t at (drop at heap) ≡ ((owns heap t at && not (list_any (names_lock at) ds)) || owns_other ds heap t (at + 1) (drop (at + 1) heap))
    of_list [] is = let none : length heap ≡ 0 = ap length is in absurd (omega (arith, l, none))
    of_list (o ∷ os) is = step ds heap t at o l
