use Rattle.std.proofs.Common.{subst}
use Rattle.cond_search.specs.Verdicts.{IsDecision}
use Rattle.cond_prover.proofs.Answering.{apart_are, failing}
use Rattle.cond_prover.proofs.prover.prove_numbers.Goals as goal

pub decide-requires-clause-apart : goal.decide-requires-clause-apart
decide-requires-clause-apart c =
    apart_are c.args.c.now c.in_ok-plan.plan c.args.facts.now c.in_ok-plan.ensures c.requires.first

pub returns-in-Fits-clause-proof : goal.returns-in-Fits-clause-proof
returns-in-Fits-clause-proof c =
    failing c.fitting_points_are_counterexamples.ensures c.args.c.now c.in_ok-plan.plan c.args.facts.now c.in-Fits.point c.args.settings c.valuation.result c.requires.sorted c.in_ok-plan.ensures c.requires.first (subst (IsDecision c.args.c.now c.args.facts.now) c.in-Fits.is c.in_ok-d.ensures.answer) c.requires.settings c.valuation.ensures
