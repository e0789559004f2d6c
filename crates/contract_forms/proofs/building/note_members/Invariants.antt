use Rattle.std.proofs.Common.{◌≡◌, ◌++◌, take, flat_map}
use Rattle.contract_forms.specs.Heads.{method_breaches}
use Rattle.contract_forms.proofs.building.note_members.Given as goal

abbrev pub invariant-members : goal.invariant-members
invariant-members l = l.found ≡ l.fn.found ++ flat_map (method_breaches l.functions) (take l.method-index l.members)
