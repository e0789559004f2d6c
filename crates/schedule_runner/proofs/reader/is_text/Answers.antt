use Rattle.std.proofs.Common.{◌≡◌, ◌∙◌}
use Rattle.std.specs.Str.{IsValidUpTo}
use Rattle.std.specs.Str.Lossy.{utf8_valid_len}
use Rattle.schedule_runner.proofs.Texts.{utf8_test}
use Rattle.schedule_runner.proofs.reader.is_text.Goals as goal

pub returns : goal.returns
returns c = c.is_ok.ensures.value ∙ utf8_test c.from_utf8.result _ _ c.args.bytes.now c.from_utf8.ensures.cases
