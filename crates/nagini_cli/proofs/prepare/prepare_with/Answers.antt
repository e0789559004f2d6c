use Rattle.std.proofs.Common.{Option, IfSome, Err, ap, ℕ, List}
use Rattle.std.proofs.lemmas.Result.{IfOk-weaker}
use Rattle.io_edge.specs.Outside.{Held, held_at, IsTooLong}
use Rattle.nagini_cli.specs.Allowed.{IsHeldAs, schedule_fault, both_read}
use Rattle.nagini_cli.specs.Preparing.{ByBytes, ByFiles}
use Rattle.nagini_cli.specs.RunAnswers.{AreShort, schedule_too_long}
use Rattle.nagini_cli.specs.declared.check.TheConstants.{FILE_LIMIT}
use Rattle.nagini_cli.proofs.Prepares.{by_files}
use Rattle.nagini_cli.proofs.Told.{long_bytes}
use Rattle.nagini_cli.proofs.prepare.prepare_with.Goals as goal

pub returns-in-Ok-clause-whole : goal.returns-in-Ok-clause-whole
returns-in-Ok-clause-whole g c =
    let held : Option Held = g.F.Files.held c.args.files.now in
    let bytes : List ℕ = c.args.bytes.now in
    let script : List ℕ = c.deref.result.now in
    let also : IsHeldAs held c.args.schedule.now script = rw c.deref.ensures.value c.in-Ok.ensures.bytes in
    let short : AreShort bytes script = record { module_is = c.requires; schedule_is = rw c.deref.ensures.value c.in-Ok.ensures.fits } in
    IfOk-weaker c.prepare_bytes.result (λ p. ByBytes bytes script p) (λ p. (file : List ℕ) → IsHeldAs held file bytes → ByFiles held file c.args.schedule.now p)
    (λ p by file holds. by_files held file c.args.schedule.now bytes script p holds also short by)
    c.prepare_bytes.ensures.whole

pub returns-in_ok-too_long-in-Err-TooLong-clause-whole : goal.returns-in_ok-too_long-in-Err-TooLong-clause-whole
returns-in_ok-too_long-in-Err-TooLong-clause-whole g c = λ file holds.
    let held : Option Held = g.F.Files.held c.args.files.now in
    let is_long : IfSome held (λ files. IsTooLong FILE_LIMIT (held_at files c.args.schedule.now)) = c.in-Err-TooLong.ensures.only_too_long (ap Err c.in-Err-TooLong.field-0-is) in
    let long = long_bytes held c.args.schedule.now is_long in
    let said = c.in_ok-too_long-in-Err-TooLong.ensures in
    both_read c.args.bytes.now long.0 holds long.1 (schedule_too_long c.requires long.2 said.status_is said.text_is)

pub returns-in_ok-read_fault-in-Err-Failed-clause-whole : goal.returns-in_ok-read_fault-in-Err-Failed-clause-whole
returns-in_ok-read_fault-in-Err-Failed-clause-whole g c = λ file holds.
    let said = c.in_ok-read_fault-in-Err-Failed.ensures in
    schedule_fault c.args.bytes.now holds c.requires said.status_is said.text_is
