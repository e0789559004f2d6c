use Rattle.std.proofs.Common.{subst}
use Rattle.cond_facts.specs.Outcomes.{IsOutcome, IsDecided}
use Rattle.cond_facts.proofs.FactLaws.{no_wide_row, wide_of_facts, narrow_facts}
use Rattle.cond_search.proofs.next.next_step.Goals as goal

pub returns-in-Refuted-clause-step : goal.returns-in-Refuted-clause-step
returns-in-Refuted-clause-step c =
    (subst (IsOutcome c.args.facts.now) c.in-Refuted.is c.in_ok-d.ensures.outcome) c.args.c.now

pub returns-in-Wide-clause-step : goal.returns-in-Wide-clause-step
returns-in-Wide-clause-step c =
    wide_of_facts c.args.c.now c.args.facts.now c.in-Wide.w c.requires.facts (subst (IsOutcome c.args.facts.now) c.in-Wide.is c.in_ok-d.ensures.outcome)

pub returns-in-Wide-clause-narrow : goal.returns-in-Wide-clause-narrow
returns-in-Wide-clause-narrow c narrow =
    subst IsDecided c.in-Wide.is (c.in_ok-d.ensures.narrow (narrow_facts c.args.c.now c.args.facts.now narrow c.requires.facts))

pub step_at-requires-clause-met : goal.step_at-requires-clause-met
step_at-requires-clause-met c =
    subst (IsOutcome c.args.facts.now) c.in-Met.is c.in_ok-d.ensures.outcome

pub unreachable-requires : goal.unreachable-requires
unreachable-requires c =
    no_wide_row c.args.c.now c.args.facts.now c.in-Form.field-0 c.requires.facts (subst (IsOutcome c.args.facts.now) c.in-Form.is c.in_ok-d.ensures.outcome)
