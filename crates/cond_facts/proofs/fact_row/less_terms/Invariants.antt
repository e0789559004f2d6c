use Rattle.std.specs.Prelude.{take}
use Rattle.cond_facts.specs.Differences.{Lessens}
use Rattle.cond_facts.proofs.fact_row.less_terms.Given as goal

abbrev pub invariant-loop-var : goal.invariant-loop-var
invariant-loop-var l = Lessens l.fn.row (take l.var-index l.fn.terms) l.rest
