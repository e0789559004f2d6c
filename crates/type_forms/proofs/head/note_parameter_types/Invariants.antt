use Rattle.std.proofs.Common.{◌≡◌, ◌++◌, take, flat_map}
use Rattle.type_forms.specs.Signatures.{parameter_type_fault}
use Rattle.type_forms.proofs.head.note_parameter_types.Given as goal

abbrev pub invariant-params : goal.invariant-params
invariant-params l = l.found ≡ l.fn.found ++ flat_map (parameter_type_fault l.classes) (take l.param-index l.params)
