use Rattle.std.specs.Prelude.{FitsSigned}
use Rattle.std.specs.Int.{w128}
use Rattle.std.proofs.Common.{rules}
use Rattle.std.proofs.lemmas.Int.{to_z-of_z}
use Rattle.lin_solver.proofs.MoveLemmas.{stays}
use Rattle.lin_solver.proofs.way_back.stay.Goals as goal

pub returns : goal.returns
returns c =
    let fits : FitsSigned w128 c.args.point.q = search rules in
    rw (to_z-of_z w128 c.args.point.q fits) (stays c.args.point c.args.var c.push.new.self c.in_ok-push.ensures.ok)
