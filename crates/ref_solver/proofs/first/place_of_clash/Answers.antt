use Rattle.std.proofs.Common.{◌≡◌, ◌+◌, arith}
use Rattle.ref_solver.proofs.Finding.{between_all, first_at}
use Rattle.ref_solver.proofs.first.place_of_clash.Goals as goal

pub loop-high-init : goal.loop-high-init
loop-high-init c = between_all c.args.lits.now c.requires

pub returns : goal.returns
returns c =
    let order = c.loop-high.invariant.order in
    let next : c.loop-high.high ≡ c.loop-high.low + 1 = let test = c.loop-high-test.false in omega arith in
    first_at c.args.lits.now c.loop-high.low c.loop-high.high next c.loop-high.invariant
