use Rattle.std.proofs.Common.{subst}
use Rattle.cond_prover.proofs.Answering.{IsFound, facts_are, wide_is, none_wide}
use Rattle.cond_prover.proofs.prover.prove_first.Goals as goal

pub prove_facts-requires-clause-facts : goal.prove_facts-requires-clause-facts
prove_facts-requires-clause-facts c =
    facts_are c.args.c.now c.args.facts.now c.requires.sorted c.requires.first (subst (IsFound c.args.facts.now) c.in-None.is c.in_ok-place.ensures)

pub wide_at-requires : goal.wide_at-requires
wide_at-requires c =
    wide_is c.args.c.now c.args.facts.now c.in-Some.place c.requires.forms c.requires.first (subst (IsFound c.args.facts.now) c.in-Some.is c.in_ok-place.ensures)

pub returns-in-Some-clause-narrow : goal.returns-in-Some-clause-narrow
returns-in-Some-clause-narrow c narrow =
    absurd (none_wide c.args.c.now c.args.facts.now c.in-Some.place narrow c.requires.first (subst (IsFound c.args.facts.now) c.in-Some.is c.in_ok-place.ensures))
