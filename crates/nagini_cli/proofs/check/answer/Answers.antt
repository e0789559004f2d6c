use Rattle.std.proofs.lemmas.Result.{IfOk-weaker}
use Rattle.std.proofs.Common.{refl}
use Rattle.nagini_cli.specs.Answers.{IsAnswer}
use Rattle.nagini_cli.specs.Replies.{text_of}
use Rattle.nagini_cli.specs.SmallRun.{first_false, IsVerdict}
use Rattle.nagini_cli.proofs.Answered.{IsAnswer-refused, answers_verdict, is_module, the_answer}
use Rattle.nagini_cli.proofs.check.answer.Goals as goal

pub verdict-requires : goal.verdict-requires
verdict-requires c = c.a_spelled_module_is_small.ensures.numbers c.args.bytes.now c.in-Ok.module (is_module c.args.bytes.now c.in-Ok.module c.in-Ok.ensures)

pub returns-in-Ok : goal.returns-in-Ok
returns-in-Ok c =
    let m = c.in-Ok.module in
    let spelled = is_module c.args.bytes.now m c.in-Ok.ensures in
    let small = c.a_spelled_module_is_small.ensures.forms c.args.bytes.now m spelled in
    let alone = c.a_spelled_module_is_small.ensures.is_main c.args.bytes.now m spelled in
    IfOk-weaker c.verdict.result (λ r. IsVerdict (first_false m) r.status (text_of r)) (λ r. IsAnswer c.args.bytes.now r.status (text_of r))
    (λ r v. the_answer c.a_file_has_one_answer.ensures.one c.args.bytes.now r.status (text_of r) (answers_verdict c.args.bytes.now m (first_false m) r.status (text_of r) c.requires spelled small alone refl v))
    c.verdict.ensures

pub returns-in-Err : goal.returns-in-Err
returns-in-Err c = IsAnswer-refused c.a_file_has_one_answer.ensures.one c.args.bytes.now c.in-Err.fault c.refuse.result c.requires c.in-Err.ensures c.refuse.ensures.told c.refuse.ensures.no_memory
