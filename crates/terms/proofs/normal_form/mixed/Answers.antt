use Rattle.std.specs.Int.{w128}
use Rattle.std.proofs.Common.{ap, ◌∙◌}
use Rattle.std.proofs.lemmas.Int.{to_z-of_z}
use Rattle.terms.specs.Forms.{form_in}
use Rattle.terms.proofs.Answering.{mixed_ok}
use Rattle.terms.proofs.normal_form.mixed.Goals as goal

pub returns-in-Ok : goal.returns-in-Ok
returns-in-Ok c =
    let left = to_z-of_z w128 c.args.by_left c.ranges.by_left in
    let right = to_z-of_z w128 c.args.by_right c.ranges.by_right in
    let is = rw (left, right) at c.in-Ok.ensures.sum in
    let fits = rw (left, right) at c.in-Ok.ensures.fits in
    (ap form_in c.form.ensures ∙ mixed_ok c.args.by_left c.args.by_right c.args.a c.args.b c.in-Ok.sum is, fits)
