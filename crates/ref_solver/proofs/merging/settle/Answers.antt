use Rattle.ref_solver.proofs.Merged.{next_partial}
use Rattle.ref_solver.proofs.merging.settle.Goals as goal

pub loop-i-preserved : goal.loop-i-preserved
loop-i-preserved c =
    next_partial c.args.lits.now c.loop-i.classes c.as_slice.result.now c.merge.new.classes c.in-Some.i c.in-Some.j c.as_slice.ensures c.loop-i.invariant c.in-Some.ensures.some c.in-Some.ensures.there c.in_ok-merge.ensures
