use Rattle.std.specs.Prelude.{◌≡◌, get_or}
use Rattle.std.proofs.Common.{rules}
use Rattle.ref_solver.proofs.Collecting.{literals_step}
use Rattle.ref_solver.proofs.collect.alone.Goals as goal

pub loop-l-preserved : goal.loop-l-preserved
loop-l-preserved c =
    let ls = c.args.lits.now in
    let is : get_or ls c.loop-l.l-index c.l-item.result ≡ c.l-item.result = search rules in
    literals_step ls c.loop-l.l-index c.l-item.result c.loop-l.classes c.add_sides.new.classes c.loop-l-test.true is c.loop-l.invariant c.in_ok-add_sides.ensures
