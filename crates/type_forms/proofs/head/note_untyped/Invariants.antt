use Rattle.std.proofs.Common.{◌≡◌, ◌++◌, take, flat_map}
use Rattle.type_forms.specs.Signatures.{untyped_fault}
use Rattle.type_forms.proofs.head.note_untyped.Given as goal

abbrev pub invariant-params : goal.invariant-params
invariant-params l = l.found ≡ l.fn.found ++ flat_map untyped_fault (take l.param-index l.params)
