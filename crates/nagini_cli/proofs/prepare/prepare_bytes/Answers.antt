use Rattle.std.proofs.lemmas.Result.{IfOk-weaker}
use Rattle.nagini_cli.specs.RunAnswers.{refused}
use Rattle.nagini_cli.proofs.Answered.{is_module, is_refused, no_read_fault}
use Rattle.nagini_cli.proofs.prepare.prepare_bytes.Goals as goal

pub returns-in-Ok-clause-whole : goal.returns-in-Ok-clause-whole
returns-in-Ok-clause-whole c =
    IfOk-weaker c.prepare_module.result _ _
    (λ p by. by c.args.bytes.now c.requires (is_module c.args.bytes.now c.in-Ok.module c.in-Ok.ensures))
    c.prepare_module.ensures.whole

pub returns-in_ok-refuse-in-Err-clause-whole : goal.returns-in_ok-refuse-in-Err-clause-whole
returns-in_ok-refuse-in-Err-clause-whole c =
    let said = c.in_ok-refuse-in-Err.ensures in
    refused c.requires c.in-Err.fault (is_refused c.args.bytes.now c.in-Err.fault c.in-Err.ensures (λ e. let gone = said.no_memory e in cc)) said.told.status_is said.told.text_is

pub returns-in_ok-refuse-in-Err-clause-no_read_fault : goal.returns-in_ok-refuse-in-Err-clause-no_read_fault
returns-in_ok-refuse-in-Err-clause-no_read_fault c = λ unread. no_read_fault c.in-Err.fault _ c.in_ok-refuse-in-Err.ensures.told.status_is unread
