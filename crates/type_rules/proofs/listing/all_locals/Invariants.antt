use Rattle.std.proofs.Common.{◌≡◌, map, take}
use Rattle.type_rules.specs.Types.{local}
use Rattle.type_rules.proofs.listing.all_locals.Given as goal

abbrev pub invariant-variables : goal.invariant-variables
invariant-variables l = l.all ≡ map local (take l.variable-index l.variables)
