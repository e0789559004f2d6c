use Rattle.std.specs.Prelude.{[], ◌∷◌, ◌++◌, Contains}
use Rattle.std.proofs.Common.{drop}
use Rattle.terms.specs.Fitting.{terms_in}
use Rattle.cond_plan.proofs.applications.place_of.Given as goal

abbrev pub invariant-loop-i : goal.invariant-loop-i
invariant-loop-i l = Contains (terms_in (drop l.i l.hyps ++ l.c.goal ∷ [])) l.t
