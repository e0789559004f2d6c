use Rattle.nagini_cli.proofs.Answered.{TextLaws}
use Rattle.nagini_cli.proofs.OneAnswer.{one_answer}
use Rattle.nagini_cli.proofs.SomeAnswer.{FrontLaws, some_answer}
use Rattle.nagini_cli.proofs.laws.a_file_has_one_answer.Goals as goal

pub returns : goal.returns
returns c =
    let small = c.a_spelled_module_is_small.ensures in
    let laws : TextLaws = record { one = c.a_text_has_one_answer.ensures; shape = small.forms } in
    let front : FrontLaws = record { some = c.each_text_has_an_answer.ensures; shape = small.forms; alone = small.is_main } in
    record { one = one_answer laws; some = some_answer front }
