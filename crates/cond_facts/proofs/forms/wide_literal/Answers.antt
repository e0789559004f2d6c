use Rattle.cond_facts.proofs.FormTelling.{wide_some, not_some}
use Rattle.cond_facts.proofs.forms.wide_literal.Goals as goal

pub returns-else-place-clause-wide : goal.returns-else-place-clause-wide
returns-else-place-clause-wide c =
    wide_some c.args.c.now _ c.in-Some.place c.in-Some.is c.in_ok-wide_place_in.ensures

pub returns-else-place-clause-narrow : goal.returns-else-place-clause-narrow
returns-else-place-clause-narrow c =
    not_some c.args.c.now c.in-Some.place (wide_some c.args.c.now _ c.in-Some.place c.in-Some.is c.in_ok-wide_place_in.ensures)
