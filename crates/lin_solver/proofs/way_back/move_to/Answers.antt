use Rattle.std.specs.Prelude.{FitsSigned}
use Rattle.std.specs.Int.{w128}
use Rattle.std.proofs.Common.{rules}
use Rattle.std.proofs.lemmas.Int.{to_z-of_z}
use Rattle.lin_solver.proofs.MoveLemmas.{moved_wide, worst_coef}
use Rattle.lin_solver.proofs.way_back.move_to.Goals as goal

pub at_bound-requires-clause-coef : goal.at_bound-requires-clause-coef
at_bound-requires-clause-coef c =
    let fits : FitsSigned w128 c.args.worst.coef = search rules in
    let (numbers, have, is) = c.requires.worst in
    rw (to_z-of_z w128 c.args.worst.coef fits) (worst_coef c.args.rows.now c.args.steps.now c.args.point c.args.var numbers c.args.worst have is)

pub wide_at-requires : goal.wide_at-requires
wide_at-requires c =
    let worst = c.args.worst in
    let fits : FitsSigned w128 worst.coef = search rules in
    let fits' : FitsSigned w128 worst.room = search rules in
    let (numbers, have, is) = c.requires.worst in
    moved_wide c.args.rows.now c.args.steps.now c.args.point c.args.var numbers worst c.requires.occurs c.requires.point have is
    (rw (to_z-of_z w128 worst.coef fits, to_z-of_z w128 worst.room fits') at (c.in-Err-Wide.ensures.wide c.in-Err-Wide.field-0-is))
