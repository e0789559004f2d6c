use Rattle.std.proofs.Common.{◌≡◌, length}
use Rattle.type_forms.specs.Signatures.{same_parameters}
use Rattle.type_forms.proofs.over.same_parameters.Given as goal

abbrev pub invariant-params : goal.invariant-params
invariant-params l = same_parameters l.classes l.left l.right ≡ same_parameters l.classes l.fn.params l.fn.others

abbrev pub decreases-params : goal.decreases-params
decreases-params l = length l.left
