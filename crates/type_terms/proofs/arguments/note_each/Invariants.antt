use Rattle.std.proofs.Common.{◌≡◌, ◌++◌, drop}
use Rattle.type_terms.specs.Calls.{each_fits}
use Rattle.type_terms.proofs.arguments.note_each.Given as goal

abbrev pub invariant-arguments : goal.invariant-arguments
invariant-arguments l = record { at : l.k ≡ l.worth-index; same : l.found ++ each_fits l.classes l.rule l.parameters l.k (drop l.worth-index l.arguments) ≡ l.fn.found ++ each_fits l.classes l.rule l.parameters 0 l.arguments }
