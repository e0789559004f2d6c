use Rattle.std.proofs.Common.{rules, arith}
use Rattle.proof_checker.specs.declared.Derivation.{the_lemmas}
use Rattle.cond_facts.proofs.Numbering.{derives}
use Rattle.cond_facts.proofs.row_facts.combination.Goals as goal

pub returns : goal.returns
returns c condition =
    let few = c.requires.few in
    derives condition c.args.facts.now c.args.reading.now.rows c.args.reading.now.numbers c.as_slice.result.now c.args.steps.now c.in_ok-steps.steps _ _ (search (rules, the_lemmas)) c.as_slice.ensures c.in_ok-steps.ensures c.requires.read c.requires.refuted (omega arith)
