use Rattle.py_front.proofs.SomeFront.{some_front}
use Rattle.py_front.proofs.laws.each_text_has_an_answer.Goals as goal

pub returns : goal.returns
returns c text = some_front text (c.each_text_has_tokens_or_a_fault.ensures text) c.each_list_of_tokens_has_an_answer.ensures (record { types = c.faults_have_one_first_fault.ensures.some; contracts = c.breaches_have_one_first_breach.ensures.some })
