use Rattle.std.proofs.Common.{Option, IfSome, Err, ap}
use Rattle.std.proofs.lemmas.Result.{IfOk-weaker}
use Rattle.std.specs.Prelude.{codes}
use Rattle.io_edge.specs.Outside.{Held, held_at, IsTooLong}
use Rattle.nagini_cli.specs.Allowed.{answered, ChecksFile, IsHeldAs}
use Rattle.nagini_cli.specs.Answers.{IsAnswer}
use Rattle.nagini_cli.specs.Replies.{Says, text_of}
use Rattle.nagini_cli.specs.Texts.{limit_line}
use Rattle.nagini_cli.specs.declared.status.TheConstants.{LIMIT}
use Rattle.nagini_cli.specs.declared.check.TheConstants.{FILE_LIMIT}
use Rattle.nagini_cli.proofs.Told.{ChecksFile-too_long}
use Rattle.nagini_cli.proofs.check.check.Goals as goal

pub returns-in-Ok-clause-whole : goal.returns-in-Ok-clause-whole
returns-in-Ok-clause-whole g c =
    let held = g.F.Files.held c.args.files.now in
    let is : IsHeldAs held c.args.name.now c.deref.result.now = rw c.deref.ensures.value c.in-Ok.ensures.bytes in
    IfOk-weaker c.answer.result (λ r. IsAnswer c.deref.result.now r.status (text_of r)) (λ r. ChecksFile held c.args.name.now r.status (text_of r))
    (λ r a. answered c.deref.result.now is a.answers)
    c.answer.ensures

pub returns-in-Err-TooLong-clause-whole : goal.returns-in-Err-TooLong-clause-whole
returns-in-Err-TooLong-clause-whole g c =
    let held : Option Held = g.F.Files.held c.args.files.now in
    let long : IfSome held (λ files. IsTooLong FILE_LIMIT (held_at files c.args.name.now)) = c.in-Err-TooLong.ensures.only_too_long (ap Err c.in-Err-TooLong.field-0-is) in
    IfOk-weaker c.too_long.result (λ r. Says r LIMIT (limit_line (codes "file"))) (λ r. ChecksFile held c.args.name.now r.status (text_of r))
    (λ r s. ChecksFile-too_long held c.args.name.now r.status (text_of r) long s.status_is s.text_is)
    c.too_long.ensures
