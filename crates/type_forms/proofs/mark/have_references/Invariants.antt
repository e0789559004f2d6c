use Rattle.std.proofs.Common.{◌≡◌, drop}
use Rattle.std.specs.List.{list_all}
use Rattle.type_forms.specs.Signatures.{has_reference}
use Rattle.type_forms.proofs.mark.have_references.Given as goal

abbrev pub invariant-params : goal.invariant-params
invariant-params l = list_all (has_reference l.classes) (drop l.param-index l.params) ≡ list_all (has_reference l.classes) l.params
