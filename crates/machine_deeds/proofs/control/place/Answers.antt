use Rattle.std.proofs.Common.{◌≡◌, length, ◌∙◌, arith}
use Rattle.machine_deeds.proofs.Stacks.{all_placed, none_left}
use Rattle.machine_deeds.proofs.control.place.Goals as goal

pub returns : goal.returns
returns g c =
    let none : length c.loop-depth.members ≡ 0 = omega (arith, c.loop-depth.invariant, c.loop-depth.auto.depth-end, c.loop-depth-test.false, c.len-count.ensures) in
    none_left c.loop-depth.members c.loop-depth.stack c.loop-depth.depth none ∙ c.loop-depth.invariant.0 ∙ all_placed c.args.members c.args.stack.now c.requires
