use Rattle.lin_solver.proofs.solving.point_of.Goals as goal

pub way_back-requires : goal.way_back-requires
way_back-requires c =
    rw (c.as_slice.ensures, c.as_slice-2.ensures) c.in_ok-levels.ensures.levels
