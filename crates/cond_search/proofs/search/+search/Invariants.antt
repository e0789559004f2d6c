use Rattle.std.proofs.Common.{◌+◌, ◌*◌}
use Rattle.cond_search.proofs.Counts.{questions_open}
use Rattle.cond_search.proofs.search.+search.Given as goal

abbrev pub decreases-search : goal.decreases-search
decreases-search l = questions_open l.plan.now l.facts.now * 4 + 3

abbrev pub decreases-search_split : goal.decreases-search_split
decreases-search_split l = questions_open l.plan.now l.facts.now * 4 + 2

abbrev pub decreases-search_congruence : goal.decreases-search_congruence
decreases-search_congruence l = questions_open l.plan.now l.facts.now * 4 + 2

abbrev pub decreases-search_with : goal.decreases-search_with
decreases-search_with l = questions_open l.plan.now l.facts.now * 4

abbrev pub decreases-search_other : goal.decreases-search_other
decreases-search_other l = questions_open l.plan.now l.facts.now * 4 + 1
