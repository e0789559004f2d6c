use Rattle.proof_checker.proofs.Reading.{nodes_measure, under_measure, lists_measure, apply_measure, finish_measure, stands_measure, stands_list_measure, numbers_measure, numbers_list_measure}
use Rattle.proof_checker.proofs.puts.+views.Given as goal

abbrev pub decreases-same_nodes : goal.decreases-same_nodes
decreases-same_nodes l = nodes_measure l.x l.p.now l.y l.q.now

abbrev pub decreases-same_under : goal.decreases-same_under
decreases-same_under l = under_measure l.x l.p.now l.y l.q.now

abbrev pub decreases-same_lists : goal.decreases-same_lists
decreases-same_lists l = lists_measure l.xs.now l.p.now l.ys.now l.q.now

abbrev pub decreases-apply : goal.decreases-apply
decreases-apply l = apply_measure l.x l.p.now l.todo.now

abbrev pub decreases-finish : goal.decreases-finish
decreases-finish l = finish_measure l.x l.p.now l.todo.now

abbrev pub decreases-stands : goal.decreases-stands
decreases-stands l = stands_measure l.x l.p.now l.a l.q.now

abbrev pub decreases-stands_in_list : goal.decreases-stands_in_list
decreases-stands_in_list l = stands_list_measure l.xs.now l.p.now l.a l.q.now

abbrev pub decreases-is_of_numbers : goal.decreases-is_of_numbers
decreases-is_of_numbers l = numbers_measure l.x l.p.now

abbrev pub decreases-are_of_numbers : goal.decreases-are_of_numbers
decreases-are_of_numbers l = numbers_list_measure l.xs.now l.p.now
