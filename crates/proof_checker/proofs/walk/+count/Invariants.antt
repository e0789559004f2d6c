use Rattle.proof_checker.proofs.Counting.{term_measure, parts_measure, two_measure, list_measure}
use Rattle.proof_checker.proofs.walk.+count.Given as goal

abbrev pub decreases-count : goal.decreases-count
decreases-count g l = term_measure l.t.now

abbrev pub decreases-count_parts : goal.decreases-count_parts
decreases-count_parts g l = parts_measure l.t.now

abbrev pub decreases-count_two : goal.decreases-count_two
decreases-count_two g l = two_measure l.a.now l.b.now

abbrev pub decreases-count_list : goal.decreases-count_list
decreases-count_list g l = list_measure l.ts.now
