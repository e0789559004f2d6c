-- The report of a module: its local faults, each once, in the order of their places, kinds and methods, and then their number.
use Rattle.std.specs.Prelude.{ℕ, List, [], ◌++◌, length, All, Contains, Option, Some, None, slice_get, flat_map, codes}
use Rattle.std.specs.Option.{option_map_or}
use Rattle.py_syntax.specs.declared.Class.{Class}
use Rattle.py_syntax.specs.declared.Method.{Method}
use Rattle.py_syntax.specs.declared.Module.{Module}
use Rattle.py_syntax.specs.Findings.{Finding, AreInOrder}
use Rattle.py_syntax.specs.SmallLocal.{IsLocalFault}
use Rattle.nagini_cli.specs.Texts.{fault_line, not_proved_line}

-- these are the local faults of the module, in order
pub record AreLocalFaults (m : Module) (faults : List Finding) : Type 0 where
  pub in_order : AreInOrder faults
  pub only_faults : All (IsLocalFault m) faults
  pub all_faults : (f : Finding) → IsLocalFault m f → Contains faults f

-- a name by its number
abbrev pub name_at : Module → ℕ → List ℕ
name_at m n = option_map_or (λ name. name) (slice_get m.names n) []

-- the name of a class before that of its method
abbrev pub owner_text : Module → Option ℕ → List ℕ
owner_text m None = []
owner_text m (Some c) = option_map_or (λ (class : Class). name_at m class.name ++ codes ".") (slice_get m.classes c) []

-- how a report names a method: `f`, or `C.m` where it is one of a class
abbrev pub method_text : Module → ℕ → List ℕ
method_text m i = option_map_or (λ (method : Method). owner_text m method.owner ++ name_at m method.name) (slice_get m.methods i) []

abbrev pub finding_line : Module → Finding → List ℕ
finding_line m f = fault_line f.place f.kind (method_text m f.method)

abbrev pub report_text : Module → List Finding → List ℕ
report_text m faults = flat_map (finding_line m) faults ++ not_proved_line (length faults)
