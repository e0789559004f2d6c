use Rattle.cond_facts.proofs.Unclashed.{listed_hold}
use Rattle.cond_facts.proofs.flags.flags_of.Goals as goal

pub returns-in_ok-push_flags-in-None : goal.returns-in_ok-push_flags-in-None
returns-in_ok-push_flags-in-None c =
    listed_hold c.args.facts.now c.in_ok-d.field-0 c.new-list.result c.push_flags.new.list c.in-None.is c.in_ok-d.ensures c.new-list.ensures c.in_ok-push_flags-in-None.ensures
