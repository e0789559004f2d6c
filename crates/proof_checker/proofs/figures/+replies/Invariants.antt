use Rattle.proof_checker.proofs.Reading.{numbers_measure, numbers_list_measure}
use Rattle.proof_checker.proofs.Replying.{read_measure, go_on_measure}
use Rattle.proof_checker.proofs.figures.+replies.Given as goal

abbrev pub decreases-read : goal.decreases-read
decreases-read l = read_measure l.x l.p.now l.rest.now

abbrev pub decreases-go_on : goal.decreases-go_on
decreases-go_on l = go_on_measure l.x l.p.now l.rest.now

abbrev pub decreases-of_node : goal.decreases-of_node
decreases-of_node l = numbers_measure l.x l.p.now

abbrev pub decreases-of_list : goal.decreases-of_list
decreases-of_list l = numbers_list_measure l.xs.now l.p.now
