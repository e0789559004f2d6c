use Rattle.cond_facts.proofs.Fronts.{front_is}
use Rattle.cond_facts.proofs.Unclashed.{rest, found, goes_on}
use Rattle.cond_facts.proofs.flags.+clash.Goals as goal

pub returns-in-Some : goal.returns-in-Some
returns-in-Some t c =
    let fs = c.args.facts.now in
    found c.l-item.result fs (rest fs) c.args.place c.in_ok-next-in-len1-up.next c.in-Some.other c.in_ok-other-in-len1-up.field-0 (front_is c.l-item.result fs c.in-len1-up.len_at_least c.l-item.is) c.in_ok-next-in-len1-up.ensures c.in-Some.is c.in_ok-other-in-len1-up.ensures

pub returns-in-None : goal.returns-in-None
returns-in-None t c =
    let fs = c.args.facts.now in
    goes_on c.l-item.result fs (rest fs) c.args.place c.in_ok-next-in-len1-up.next c.in_ok-other-in-len1-up.field-0 c.clash.result (front_is c.l-item.result fs c.in-len1-up.len_at_least c.l-item.is) c.in_ok-next-in-len1-up.ensures c.in-None.is c.in_ok-other-in-len1-up.ensures c.clash.ensures
