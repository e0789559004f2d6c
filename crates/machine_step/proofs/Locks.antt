-- The locks of a thread are those among the objects that it owns.
use Rattle.std.proofs.Common.{◌≡◌, ℕ, zero, suc, Bool, true, false, ◌&&◌, ◌||◌, List, [], ◌∷◌, drop, slice_get, Some, refl, ap, ◌∙◌}
use Rattle.std.specs.List.{list_any}
use Rattle.std.specs.Option.{option_map_or, option_and_then}
use Rattle.machine_model.specs.declared.state.Object.{Object}
use Rattle.machine_model.specs.declared.state.LockState.{LockState}
use Rattle.machine_model.specs.Heap.{is_some_of, owns}
use Rattle.machine_model.specs.Moments.{owns_other, owns_any}
use Rattle.machine_step.specs.Owned.{is_owned}

found : {X : Type 0} (xs : List X) (i : ℕ) (x : X) (rest : List X) → drop i xs ≡ x ∷ rest → slice_get xs i ≡ Some x
found [] zero x rest is = cc
found [] (suc i) x rest is = cc
found (y ∷ ys) zero x rest is = cc
found (y ∷ ys) (suc i) x rest is = found ys i x rest is

next : {X : Type 0} (xs : List X) (i : ℕ) (x : X) (rest : List X) → drop i xs ≡ x ∷ rest → drop (suc i) xs ≡ rest
next [] zero x rest is = cc
next [] (suc i) x rest is = cc
next (y ∷ ys) zero x rest is = cc
next (y ∷ ys) (suc i) x rest is = next ys i x rest is

and_true : (b : Bool) → (b && true) ≡ b
and_true true = refl
and_true false = refl

owned_from : (heap : List Object) (t i : ℕ) (os : List Object) → drop i heap ≡ os → owns_other [] heap t i os ≡ list_any (is_owned t) os
owned_from heap t i [] is = refl
owned_from heap t i (o ∷ os) is =
    let here : owns heap t i ≡ is_owned t o = ap (λ x. option_map_or (λ (l : LockState). is_some_of l.owner t) (option_and_then (λ (y : Object). y.lock) x) false) (found heap i o os is) in
    ap (λ b. b || owns_other [] heap t (suc i) os) (and_true (owns heap t i) ∙ here)
    ∙ ap (λ b. is_owned t o || b) (owned_from heap t (suc i) os (next heap i o os is))

pub owns_any_is : (heap : List Object) (t : ℕ) → owns_any heap t ≡ list_any (is_owned t) heap
owns_any_is heap t = owned_from heap t 0 heap refl
