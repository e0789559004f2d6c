use Rattle.std.proofs.Common.{◌≡◌, drop}
use Rattle.type_base.specs.Members.{function_named}
use Rattle.type_base.proofs.meaning.function_named.Given as goal

abbrev pub invariant-items : goal.invariant-items
invariant-items l = function_named l.name (drop l.item-index l.items) ≡ function_named l.name l.items
