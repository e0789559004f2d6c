use Rattle.std.proofs.Common.{sym, subst}
use Rattle.machine_step.specs.Built.{IsBuilt}
use Rattle.machine_step.proofs.Kept.{built_after}
use Rattle.machine_step.proofs.one_step.step.Goals as goal

pub returns-in-Ok-carry_out-clause-built : goal.returns-in-Ok-carry_out-clause-built
returns-in-Ok-carry_out-clause-built c =
    subst (IsBuilt c.args.m.now) (sym c.in-Ok-carry_out.ensures.ok) (built_after c.args.m.now c.args.s.now c.args.thread c.in-Ok.plan c.requires c.in-Ok.ensures.running)
