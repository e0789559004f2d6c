use Rattle.std.specs.Prelude.{FitsSigned}
use Rattle.std.specs.Int.{w128}
use Rattle.std.proofs.Common.{rules}
use Rattle.std.proofs.lemmas.Int.{to_z-of_z}
use Rattle.lin_rows.specs.Steps.{IsFalse}
use Rattle.lin_solver.specs.Numbers.{numbered}
use Rattle.lin_solver.proofs.NumberLemmas.{one_row}
use Rattle.lin_solver.proofs.StepLemmas.{false_holds}
use Rattle.lin_solver.proofs.given.false_step.Goals as goal

pub returns-clause-holds : goal.returns-clause-holds
returns-clause-holds c =
    let rows = c.args.rows.now in
    let steps = c.args.steps.now in
    let row = c.row_at-row.result.now in
    let fits : FitsSigned w128 row.bound = search rules in
    let none = (one_row rows steps IsFalse c.args.number row c.row_at-row.ensures c.requires).0 in
    rw (c.new.ensures, to_z-of_z w128 row.bound fits) (false_holds (numbered rows steps) c.args.number row c.row_at-row.ensures none fits)
