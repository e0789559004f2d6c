-- Whether an assertion bounds a method or a loop.
use Rattle.std.specs.Prelude.{Bool}
use Rattle.py_syntax.specs.declared.Assertion.{Assertion, fold-Assertion}
use Rattle.machine_model.specs.Frames.{atom_terminates}

-- whether `MustTerminate` stands in an assertion, at top level
abbrev pub bounds : Assertion → Bool
bounds = fold-Assertion Bool Bool atom_terminates (λ a. a.form)
