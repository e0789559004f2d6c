use Rattle.std.proofs.Common.{◌≡◌, map, take}
use Rattle.type_names.specs.Signatures.{parameter}
use Rattle.type_names.proofs.scopes.parameters.Given as goal

abbrev pub invariant-params : goal.invariant-params
invariant-params l = l.all ≡ map (parameter l.classes l.owner) (take l.p-index l.params)
