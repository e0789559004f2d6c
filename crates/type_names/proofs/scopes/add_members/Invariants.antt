use Rattle.std.proofs.Common.{◌≡◌, ◌++◌, map, take, Some}
use Rattle.type_names.specs.Signatures.{signature}
use Rattle.type_names.proofs.scopes.add_members.Given as goal

abbrev pub invariant-members : goal.invariant-members
invariant-members l = l.all ≡ l.fn.all ++ map (signature l.classes (Some l.owner)) (take l.member-index l.members)
