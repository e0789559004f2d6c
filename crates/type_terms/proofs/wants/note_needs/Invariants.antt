use Rattle.std.proofs.Common.{◌≡◌, ◌++◌, drop}
use Rattle.type_terms.specs.Calls.{needs_faults}
use Rattle.type_terms.proofs.wants.note_needs.Given as goal

abbrev pub invariant-arguments : goal.invariant-arguments
invariant-arguments l = record { at : l.k ≡ l.worth-index; same : l.found ++ needs_faults l.classes l.contract l.k (drop l.worth-index l.arguments) ≡ l.fn.found ++ needs_faults l.classes l.contract 0 l.arguments }
