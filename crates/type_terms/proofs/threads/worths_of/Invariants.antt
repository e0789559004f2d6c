use Rattle.std.proofs.Common.{◌≡◌, take}
use Rattle.type_terms.specs.Calls.{worths}
use Rattle.type_terms.proofs.threads.worths_of.Given as goal

abbrev pub invariant-givens : goal.invariant-givens
invariant-givens l = l.all ≡ worths (take l.given-index l.givens)
