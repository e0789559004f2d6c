use Rattle.cond_search.proofs.Telling.{split_told, split_wide, split_narrow, wide_point}
use Rattle.cond_search.proofs.next.split_step.Goals as goal

pub returns-then-branch-clause-step : goal.returns-then-branch-clause-step
returns-then-branch-clause-step c =
    split_told c.args.c.now c.args.plan.now c.args.facts.now c.args.place c.args.split c.in_ok-are_rows_within.field-0 c.if-branch.true c.requires.proposed c.in_ok-are_rows_within.ensures

pub returns-else-branch-clause-step : goal.returns-else-branch-clause-step
returns-else-branch-clause-step c =
    wide_point c.args.c.now c.args.place c.wide_row.result c.wide_row.ensures (split_wide c.args.c.now c.args.plan.now c.args.facts.now c.args.place c.args.split c.in_ok-are_rows_within.field-0 c.if-branch.false c.requires.begun c.requires.proposed c.in_ok-are_rows_within.ensures)

pub returns-else-branch-clause-narrow : goal.returns-else-branch-clause-narrow
returns-else-branch-clause-narrow c narrow =
    split_narrow c.args.c.now c.args.plan.now c.args.facts.now c.args.place c.args.split c.in_ok-are_rows_within.field-0 c.if-branch.false c.requires.proposed c.in_ok-are_rows_within.ensures narrow
