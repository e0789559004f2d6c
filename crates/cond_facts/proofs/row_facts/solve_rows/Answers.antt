use Rattle.cond_facts.proofs.NarrowRows.{none_told}
use Rattle.cond_facts.proofs.row_facts.solve_rows.Goals as goal

pub returns-in-Err-clause-narrow : goal.returns-in-Err-clause-narrow
returns-in-Err-clause-narrow c =
    none_told _ _ c.args.facts.now c.in-Err.place c.in-Err.is c.in_ok-reading.ensures
