use Rattle.py_parser.proofs.EachAnswer.{each_answer}
use Rattle.py_parser.proofs.laws.each_list_of_tokens_has_an_answer.Goals as goal

pub returns : goal.returns
returns c =
    let m = c.the_machine_reads_the_grammar.ensures in
    each_answer (record { complete = m.complete; refused = m.refused; unfinished = m.unfinished; ended = m.ended })
