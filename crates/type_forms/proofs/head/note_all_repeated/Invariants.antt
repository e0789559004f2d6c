use Rattle.std.proofs.Common.{◌≡◌, ◌++◌, [], take, drop}
use Rattle.type_forms.specs.Signatures.{repeated_faults}
use Rattle.type_forms.proofs.head.note_all_repeated.Given as goal

abbrev pub invariant-params : goal.invariant-params
invariant-params l = record { at : l.at ≡ l.param-index; same : l.found ++ repeated_faults (take l.param-index l.params) (drop l.param-index l.params) ≡ l.fn.found ++ repeated_faults [] l.params }
