use Rattle.std.specs.Int.{w128}
use Rattle.std.specs.Prelude.{FitsSigned}
use Rattle.std.proofs.Common.{rules}
use Rattle.std.proofs.lemmas.Int.{to_z-of_z}
use Rattle.cond_plan.proofs.Numbers.{gap_is}
use Rattle.cond_plan.proofs.gap.gap_of.Goals as goal

pub returns-in-Some-Some : goal.returns-in-Some-Some
returns-in-Some-Some c =
    let q : FitsSigned w128 c.args.p.now.q = search rules in
    let x : FitsSigned w128 c.in-Some-Some.x = search rules in
    let y : FitsSigned w128 c.in-Some-Some.y = search rules in
    let is = rw (to_z-of_z w128 c.args.p.now.q q, to_z-of_z w128 c.in-Some-Some.x x, to_z-of_z w128 c.in-Some-Some.y y) at c.gap_between.ensures in
    gap_is c.args.p.now c.args.a.now c.args.b.now c.in-Some-Some.x c.in-Some-Some.y c.gap_between.result c.requires.numbers c.in-Some-Some.ensures c.in-Some-Some.ensures' is
