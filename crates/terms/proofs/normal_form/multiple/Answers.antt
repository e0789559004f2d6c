use Rattle.std.specs.Int.{w128}
use Rattle.std.proofs.lemmas.Int.{to_z-of_z}
use Rattle.terms.proofs.Answering.{multiple_answers}
use Rattle.terms.proofs.normal_form.multiple.Goals as goal

pub returns-in-Ok : goal.returns-in-Ok
returns-in-Ok c =
    let h = rw (to_z-of_z w128 c.args.k c.ranges.k, c.row.ensures, c.row-in-Ok.ensures) at c.mixed.ensures in
    rw (c.in-Ok.is) (multiple_answers c.args.k c.in-Ok.a c.units.result c.mixed.result c.units.ensures h)
