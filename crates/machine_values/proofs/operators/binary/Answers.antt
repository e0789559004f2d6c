use Rattle.std.proofs.Common.{FitsSigned, rules}
use Rattle.std.specs.Int.{w128}
use Rattle.machine_values.proofs.Floors.{numbers_agree}
use Rattle.machine_values.proofs.operators.binary.Goals as goal

pub returns-in-Num-Num-clause-agrees : goal.returns-in-Num-Num-clause-agrees
returns-in-Num-Num-clause-agrees c =
    let left : FitsSigned w128 c.in-Num-Num.x = search rules in
    let right : FitsSigned w128 c.in-Num-Num.y = search rules in
    numbers_agree c.args.p c.args.key c.args.a c.args.b c.in-Num-Num.x c.in-Num-Num.y c.on_numbers.result c.in-Num-Num.is-0 c.in-Num-Num.is-1 left right c.on_numbers.ensures.agrees
