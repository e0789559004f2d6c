use Rattle.std.specs.Int.{w128}
use Rattle.std.proofs.lemmas.Int.{to_z-of_z}
use Rattle.cond_facts.proofs.Differing.{more_coefs, more_wide}
use Rattle.cond_facts.proofs.fact_row.more_term.Goals as goal

pub returns-in-Ok-clause-coefs : goal.returns-in-Ok-clause-coefs
returns-in-Ok-clause-coefs c =
    let coefs = rw (to_z-of_z w128 c.args.coef c.ranges.coef) at c.in-Ok.ensures.coefs in
    more_coefs c.combine.result c.args.row.now c.in-Ok.one _ coefs c.combine.ensures.sum

pub returns-in-Ok-clause-wide : goal.returns-in-Ok-clause-wide
returns-in-Ok-clause-wide c =
    let coefs = rw (to_z-of_z w128 c.args.coef c.ranges.coef) at c.in-Ok.ensures.coefs in
    more_wide c.combine.result c.args.row.now c.in-Ok.one c.args.var c.args.coef coefs c.in-Ok.ensures.bound c.requires.zero c.requires.fits c.ranges.coef c.combine.ensures.wide
