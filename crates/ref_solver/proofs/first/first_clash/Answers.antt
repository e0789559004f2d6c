use Rattle.ref_solver.proofs.first.first_clash.Goals as goal

pub place_of_clash-requires : goal.place_of_clash-requires
place_of_clash-requires c = c.clash.ensures.0 c.if-clash.true
