use Rattle.std.proofs.Common.{Option, IfSome, Err, ap, ◌∙◌}
use Rattle.std.proofs.lemmas.Result.{IfOk-weaker}
use Rattle.io_edge.specs.Outside.{Held, held_at, IsTooLong}
use Rattle.nagini_cli.specs.Allowed.{long_file}
use Rattle.nagini_cli.specs.declared.check.TheConstants.{FILE_LIMIT}
use Rattle.nagini_cli.proofs.Told.{long_bytes}
use Rattle.nagini_cli.proofs.prepare.prepare.Goals as goal

pub returns-in-Ok-clause-no_read_fault : goal.returns-in-Ok-clause-no_read_fault
returns-in-Ok-clause-no_read_fault g c =
    IfOk-weaker c.prepare_with.result _ _
    (λ p kept read. let same = kept read in (same.0 ∙ c.in-Ok.ensures.not_counted (λ e. cc), same.1 ∙ c.in-Ok.ensures.not_named (λ e. cc)))
    c.prepare_with.ensures.no_read_fault

pub returns-in_ok-too_long-in-Err-TooLong-clause-whole : goal.returns-in_ok-too_long-in-Err-TooLong-clause-whole
returns-in_ok-too_long-in-Err-TooLong-clause-whole g c =
    let held : Option Held = g.F.Files.held c.args.files.now in
    let is_long : IfSome held (λ files. IsTooLong FILE_LIMIT (held_at files c.args.file.now)) = c.in-Err-TooLong.ensures.only_too_long (ap Err c.in-Err-TooLong.field-0-is) in
    let long = long_bytes held c.args.file.now is_long in
    let said = c.in_ok-too_long-in-Err-TooLong.ensures in
    long_file long.0 long.1 long.2 said.status_is said.text_is
