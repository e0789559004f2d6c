-- The tests of contracts that an item makes, which are read apart from it.
use Rattle.std.specs.Prelude.{ℕ, List, slice_get}
use Rattle.py_base.specs.declared.Place.{Place}
use Rattle.py_syntax.specs.declared.Module.{Module}
use Rattle.machine_model.specs.declared.Object.{Object}
use Rattle.machine_model.specs.Results.{Res, then_do, Width}
use Rattle.machine_model.specs.Moments.{lock_invariant_holds}
use Rattle.machine_model.specs.Frames.{operand}
use Rattle.machine_model.specs.Sharing.{invariant_of}

-- what a release tests of a lock's invariant
abbrev pub release_tests : Width → Module → List Object → ℕ → Place → Res (Unit {0})
release_tests fits m heap r p =
    then_do (operand (slice_get heap r)) (λ (o : Object).
    then_do (invariant_of m o.class) (λ pred. lock_invariant_holds fits m heap pred r p))
