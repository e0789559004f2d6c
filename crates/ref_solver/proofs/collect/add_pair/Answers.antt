use Rattle.std.specs.Prelude.{◌≡◌, OnOk}
use Rattle.std.proofs.Common.{subst}
use Rattle.ref_solver.proofs.Collecting.{pair_step}
use Rattle.ref_solver.proofs.collect.add_pair.Goals as goal

pub returns : goal.returns
returns c =
    subst (λ cs. OnOk c.add_term-2.result (c.add_term-2.new.classes ≡ cs)) (pair_step c.args.a.now c.args.b.now c.args.classes.now c.add_term.new.classes c.in_ok-add_term.ensures) c.add_term-2.ensures
