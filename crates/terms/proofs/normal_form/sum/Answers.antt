use Rattle.terms.proofs.Answering.{sum_answers}
use Rattle.terms.proofs.normal_form.sum.Goals as goal

pub returns-in-Ok-Ok : goal.returns-in-Ok-Ok
returns-in-Ok-Ok c =
    let h = rw (c.row.ensures, c.row-in-Ok-Ok.ensures) at c.mixed.ensures in
    rw (c.in-Ok-Ok.is-0, c.in-Ok-Ok.is-1) (sum_answers c.in-Ok-Ok.a c.in-Ok-Ok.b c.mixed.result h)
