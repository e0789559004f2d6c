use Rattle.std.proofs.Common.{◌≡◌, ◌++◌, Some, take, flat_map}
use Rattle.type_forms.specs.Forms.{function_faults}
use Rattle.type_forms.proofs.building.note_members.Given as goal

abbrev pub invariant-members : goal.invariant-members
invariant-members l = l.found ≡ l.fn.found ++ flat_map (function_faults l.classes l.items (Some l.class)) (take l.method-index l.members)
