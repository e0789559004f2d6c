-- How a method ends, and what its contract says of that end.
use Rattle.std.specs.Prelude.{ℕ, List, [], ◌∷◌, Option, Some, None, if◌then◌else◌}
use Rattle.py_syntax.specs.declared.assertion.Assertion.{Assertion}
use Rattle.py_syntax.specs.declared.module.Method.{Method}
use Rattle.py_syntax.specs.declared.module.Module.{Module}
use Rattle.py_syntax.specs.Classes.{is_subclass}

-- a method ends normally with a value, or by an exception of a class
pub data Ending (V : Type 0) : Type 0 where
  Normal : V → Ending V
  Raised : ℕ → Ending V

-- the first exceptional postcondition whose class is that of the exception or above it
abbrev pub exit_for : Module → ℕ → List (ℕ × Assertion) → Option (List Assertion)
exit_for m c [] = None
exit_for m c (exit ∷ exits) = if is_subclass m c exit.0 then Some (exit.1 ∷ []) else exit_for m c exits

-- what a contract says of an end; nothing where the exception isn't declared
abbrev pub way_of : {V : Type 0} → Module → Method → Ending V → Option (List Assertion)
way_of m method (Normal v) = Some method.post
way_of m method (Raised c) = exit_for m c method.exits
