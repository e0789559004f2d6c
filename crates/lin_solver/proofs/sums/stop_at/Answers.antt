use Rattle.lin_solver.proofs.sums.stop_at.Goals as goal

pub returns-in-Ok-Ok : goal.returns-in-Ok-Ok
returns-in-Ok-Ok c =
    rw (c.in-Ok-Ok.ensures, c.in-Ok-Ok.ensures') (c.requires c.in-Wide.is, tt)
