use Rattle.std.proofs.Common.{◌≡◌, pos, rules}
use Rattle.machine_values.proofs.Floors.{quotient_agrees, modulus_agrees}
use Rattle.machine_values.proofs.numbers.on_numbers.Goals as goal

pub returns-in-4-clause-agrees : goal.returns-in-4-clause-agrees
returns-in-4-clause-agrees c =
    let other : c.args.y ≡ pos 0 → ⊥ = search rules in
    quotient_agrees c.args.p c.args.key c.args.x c.args.y c.quotient.result c.ranges.x c.ranges.y c.in-4.is other c.quotient.ensures.agrees

pub returns-in-5-clause-agrees : goal.returns-in-5-clause-agrees
returns-in-5-clause-agrees c =
    let other : c.args.y ≡ pos 0 → ⊥ = search rules in
    modulus_agrees c.args.p c.args.key c.args.x c.args.y c.modulus.result c.ranges.x c.ranges.y c.in-5.is other c.modulus.ensures.agrees
