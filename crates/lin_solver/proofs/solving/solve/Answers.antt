use Rattle.lin_solver.proofs.NarrowLemmas.{never_wide}
use Rattle.lin_solver.proofs.solving.solve.Goals as goal

pub returns-in-Err-Wide-clause-narrow : goal.returns-in-Err-Wide-clause-narrow
returns-in-Err-Wide-clause-narrow c narrow =
    let (wide, normal) = rw c.in-Err-Wide.field-0-is at c.in-Err-Wide.ensures.stops in
    never_wide c.args.rows.now c.in-Err-Wide.point narrow wide normal
