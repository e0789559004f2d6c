use Rattle.std.proofs.Common.{arith}
use Rattle.cond_prover.proofs.Answering.{wide_form_is}
use Rattle.cond_prover.proofs.prover.wide_at.Goals as goal

pub returns-in-Ok : goal.returns-in-Ok
returns-in-Ok c =
    wide_form_is c.args.c.now c.wide_form.result c.in-Ok.number c.args.place c.wide_form.ensures (omega (arith, c.in-Ok.ensures)) c.requires
