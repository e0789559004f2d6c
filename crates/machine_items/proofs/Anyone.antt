-- Whether one of several assertions bounds.
use Rattle.std.proofs.Common.{◌≡◌, Bool, ◌||◌, List, [], ◌∷◌, map, refl, ap}
use Rattle.std.specs.List.{list_any}
use Rattle.py_syntax.specs.declared.Assertion.{Assertion}
use Rattle.machine_model.specs.Frames.{must_terminate}
use Rattle.machine_items.specs.Bounds.{bounds}

any_of : (f : Assertion → Bool) (all : List Assertion) → list_any (λ b. b) (map f all) ≡ list_any f all
any_of f [] = refl
any_of f (a ∷ all) = ap (λ b. f a || b) (any_of f all)

pub any_is : (all : List Assertion) → list_any (λ b. b) (map bounds all) ≡ must_terminate all
any_is all = any_of bounds all
