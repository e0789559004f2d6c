use Rattle.ref_solver.proofs.Opposing.{exact_test}
use Rattle.ref_solver.proofs.opposed.clash.Goals as goal

pub returns : goal.returns
returns c =
    exact_test c.args.lits.now c.args.classes.now c.requires c.are_opposed.result c.are_opposed.ensures
