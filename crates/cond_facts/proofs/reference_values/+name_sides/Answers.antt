use Rattle.cond_facts.proofs.Naming.{named_further, all_named}
use Rattle.cond_facts.proofs.Rounds.{first, others, first_and_others}
use Rattle.cond_facts.proofs.reference_values.+name_sides.Goals as goal

pub returns-in_ok-named-in-len1-up-2-clause-extends :
    goal.returns-in_ok-named-in-len1-up-2-clause-extends
returns-in_ok-named-in-len1-up-2-clause-extends t c =
    named_further c.args.pairs.now c.args.named c.in_ok-named-in-len1-up.named c.in_ok-named-in-len1-up-2.named c.name_sides.result c.in_ok-named-in-len1-up.ensures.extends c.in_ok-named-in-len1-up-2.ensures.extends c.name_sides.ensures.extends

pub returns-in_ok-named-in-len1-up-2-clause-there :
    goal.returns-in_ok-named-in-len1-up-2-clause-there
returns-in_ok-named-in-len1-up-2-clause-there t c =
    let ps = c.args.some.now in
    all_named c.args.pairs.now (first ps) ps (others ps) c.in_ok-named-in-len1-up.named c.in_ok-named-in-len1-up-2.named c.name_sides.result (first_and_others ps c.in-len1-up.len_at_least) c.in_ok-named-in-len1-up.ensures.there c.in_ok-named-in-len1-up-2.ensures.extends c.in_ok-named-in-len1-up-2.ensures.there c.name_sides.ensures.extends c.name_sides.ensures.there
