use Rattle.std.proofs.Common.{◌≡◌, map, take}
use Rattle.type_names.specs.Signatures.{parameter_type}
use Rattle.type_names.proofs.scopes.parameter_types.Given as goal

abbrev pub invariant-parameters : goal.invariant-parameters
invariant-parameters l = l.types ≡ map (parameter_type l.classes) (take l.parameter-index l.parameters)
