-- All faults of types that a tree with its classes has.
use Rattle.std.specs.Prelude.{List, ◌++◌}
use Rattle.raw_syntax.specs.declared.Raw.{Raw}
use Rattle.class_table.specs.declared.Classes.{Classes}
use Rattle.type_base.specs.declared.Fault.{Fault}
use Rattle.type_forms.specs.Forms.{form_faults}
use Rattle.type_rules.specs.Statements.{rule_faults}

-- the rules that look at forms, and those that look at the types of expressions
abbrev pub type_faults : Raw → Classes → List Fault
type_faults raw cs = form_faults raw cs ++ rule_faults raw cs
