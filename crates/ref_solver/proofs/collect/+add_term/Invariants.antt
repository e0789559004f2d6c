use Rattle.std.proofs.Common.{◌≡◌, map, take}
use Rattle.terms.specs.Within.{joined, terms_within}
use Rattle.ref_solver.specs.Classes.{with_terms}
use Rattle.ref_solver.proofs.collect.+add_term.Given as goal

abbrev pub invariant-add_terms-loop-t : goal.invariant-add_terms-loop-t
invariant-add_terms-loop-t l = l.classes ≡ with_terms (joined (map terms_within (take l.t-index l.t-items))) l.fn.classes
