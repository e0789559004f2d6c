use Rattle.cond_facts.proofs.Forming.{coefs_fit, order_wide}
use Rattle.cond_facts.proofs.fact_row.row_of.Goals as goal

pub difference-requires : goal.difference-requires
difference-requires c = record {
  fits = coefs_fit c.args.a.now c.in-Ok.left c.in-Ok.ensures.form c.in-Ok.ensures.fits;
}

pub returns-in-Ok-normal-clause-wide : goal.returns-in-Ok-normal-clause-wide
returns-in-Ok-normal-clause-wide c =
    order_wide c.difference.result c.args.a.now c.args.b.now c.in-Ok.left c.in-Ok-normal.right c.in-Ok.ensures.form c.in-Ok-normal.ensures.form c.difference.ensures.wide
