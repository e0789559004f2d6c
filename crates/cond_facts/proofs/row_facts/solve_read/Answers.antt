use Rattle.std.proofs.Common.{sym, subst}
use Rattle.lin_rows.specs.WidePoints.{IsWidePointOf}
use Rattle.lin_solver.specs.WayBack.{IsSolution}
use Rattle.lin_solver.specs.Answers.{IsSolved}
use Rattle.lin_solver.specs.Narrow.{IsNarrow, IsDecided}
use Rattle.cond_facts.proofs.Gathering.{all_rows_there}
use Rattle.cond_facts.proofs.Meeting.{solution_holds}
use Rattle.cond_facts.proofs.NarrowRows.{rows_narrow}
use Rattle.cond_facts.proofs.row_facts.solve_read.Goals as goal

pub returns-in-Point-clause-outcome : goal.returns-in-Point-clause-outcome
returns-in-Point-clause-outcome c =
    let rows = c.as_slice.result.now in
    let point = c.in-Point.point in
    let solved : IsSolution rows point = subst (IsSolved rows) c.in-Point.is c.in_ok-steps.ensures.solved in
    solution_holds c.args.facts.now c.args.reading.now.rows c.args.reading.now.numbers point c.requires.read (subst (λ z. IsSolution z point) c.as_slice.ensures solved)

pub returns-in-Wide-clause-outcome : goal.returns-in-Wide-clause-outcome
returns-in-Wide-clause-outcome c =
    let rows = c.as_slice.result.now in
    let point = c.in-Wide.point in
    let read = c.requires.read in
    let solved : IsWidePointOf rows point = subst (IsSolved rows) c.in-Wide.is c.in_ok-steps.ensures.solved in
    (read.all, all_rows_there c.args.facts.now read.all read.are, subst (λ z. IsWidePointOf z point) read.rows_are (subst (λ z. IsWidePointOf z point) c.as_slice.ensures solved))

pub returns-in-Wide-clause-narrow : goal.returns-in-Wide-clause-narrow
returns-in-Wide-clause-narrow c narrow =
    let rows = rows_narrow c.args.facts.now c.args.reading.now.rows c.args.reading.now.numbers c.requires.read narrow in
    subst IsDecided c.in-Wide.is (c.in_ok-steps.ensures.narrow (subst IsNarrow (sym c.as_slice.ensures) rows))
