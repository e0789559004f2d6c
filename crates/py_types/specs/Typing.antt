-- What a tree with its classes is typed as, and what a refusal tells.
use Rattle.std.specs.Prelude.{Option, Some, None}
use Rattle.raw_syntax.specs.declared.Raw.{Raw}
use Rattle.class_table.specs.declared.Classes.{Classes}
use Rattle.type_base.specs.declared.Fault.{Fault}
use Rattle.type_base.specs.declared.Rank.TheVariants as ranks
use Rattle.type_base.specs.Faults.{fault}
use Rattle.type_rules.specs.Types.{findings_of}
use Rattle.py_types.specs.declared.typed.Typed.{Typed}
use Rattle.py_types.specs.declared.typed.TypeFault.{TypeFault}
use Rattle.py_types.specs.declared.typed.TypeFault.TheVariants as refusals

-- the type of each expression that is read as a value, and the locals of each method
abbrev pub typed_of : Raw → Classes → Typed
typed_of raw cs = let found = findings_of raw cs in record { types = found.types; locals = found.locals }

-- the fault that a refusal tells, which for want of memory is none
abbrev pub told : TypeFault → Option Fault
told (refusals.Mistyped p rule) = Some (fault p (ranks.Mistyped rule))
told (refusals.BoolAsInt p) = Some (fault p ranks.BoolAsInt)
told (refusals.Unassigned p) = Some (fault p ranks.Unassigned)
told refusals.OutOfMemory = None
