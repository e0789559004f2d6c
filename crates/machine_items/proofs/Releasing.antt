-- A release is its holder's test, the tests of the invariant, and the lock without an owner.
use Rattle.std.proofs.Common.{◌≡◌, ℕ, List, slice_get, None, refl, ap}
use Rattle.py_base.specs.declared.Place.{Place}
use Rattle.py_base.specs.declared.Kind.TheVariants.{NotHeld}
use Rattle.py_syntax.specs.declared.Module.{Module}
use Rattle.machine_model.specs.declared.Object.{Object}
use Rattle.machine_model.specs.Results.{Res, Got, Stops, then_do, tested, Width}
use Rattle.machine_model.specs.Heap.{owns, with_owner}
use Rattle.machine_model.specs.Moments.{lock_invariant_holds}
use Rattle.machine_model.specs.Frames.{operand}
use Rattle.machine_model.specs.Sharing.{invariant_of, released}
use Rattle.machine_items.specs.Tests.{release_tests}

in_turn : {A B C : Type 0} (r : Res A) (f : A → Res B) (g : B → Res C) → then_do r (λ a. then_do (f a) g) ≡ then_do (then_do r f) g
in_turn (Got a) f g = refl
in_turn (Stops h) f g = refl

tested_first : {A B C D : Type 0} (r : Res A) (k : A → Res B) (test : B → Res C) (rest : Res D)
    → then_do r (λ a. then_do (k a) (λ b. then_do (test b) (λ _. rest))) ≡ then_do (then_do r (λ a. then_do (k a) test)) (λ _. rest)
tested_first (Got a) k test rest = in_turn (k a) test (λ _. rest)
tested_first (Stops h) k test rest = refl

pub released_is : (fits : Width) (m : Module) (t : ℕ) (heap : List Object) (r : ℕ) (p : Place)
    → released fits m t heap r p ≡ then_do (tested NotHeld p (owns heap t r)) (λ _. then_do (release_tests fits m heap r p) (λ _. operand (with_owner heap r None)))
released_is fits m t heap r p =
    ap (λ x. then_do (tested NotHeld p (owns heap t r)) (λ _. x))
    (tested_first (operand (slice_get heap r)) (λ (o : Object). invariant_of m o.class) (λ pred. lock_invariant_holds fits m heap pred r p) (operand (with_owner heap r None)))
