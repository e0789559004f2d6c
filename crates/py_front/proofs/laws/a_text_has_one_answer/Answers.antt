use Rattle.py_front.proofs.OneFront.{one_front}
use Rattle.py_front.proofs.laws.a_text_has_one_answer.Goals as goal

pub returns : goal.returns
returns c text = one_front text (record {
  tokens = c.a_text_has_one_token_list.ensures.tokens text;
  or_fault = c.a_text_has_one_token_list.ensures.or_fault text;
  first = c.a_text_has_one_first_fault.ensures.first text;
  answers = c.a_list_of_tokens_has_one_answer.ensures;
  types = c.faults_have_one_first_fault.ensures.one;
  contracts = c.breaches_have_one_first_breach.ensures.one;
})
