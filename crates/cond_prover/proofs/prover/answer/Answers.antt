use Rattle.std.proofs.Common.{refl, subst}
use Rattle.cond_prover.proofs.Answering.{IsTold, wide_form_is}
use Rattle.cond_prover.proofs.prover.answer.Goals as goal

pub returns-in-Some-clause-proof : goal.returns-in-Some-clause-proof
returns-in-Some-clause-proof c =
    wide_form_is c.args.c.now c.wide_form.result c.in-Some.number c.in-Some.number c.wide_form.ensures refl (subst (IsTold c.args.c.now) c.in-Some.is c.in_ok-number.ensures.wide)
