use Rattle.std.proofs.Common.{◌≡◌, take, []}
use Rattle.terms.specs.Fitting.{terms_in}
use Rattle.ref_solver.specs.Classes.{with_terms}
use Rattle.ref_solver.proofs.collect.alone.Given as goal

abbrev pub invariant-loop-l : goal.invariant-loop-l
invariant-loop-l l = l.classes ≡ with_terms (terms_in (take l.l-index l.lits)) []
