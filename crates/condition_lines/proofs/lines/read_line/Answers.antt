use Rattle.std.proofs.Common.{ap, ◌∙◌}
use Rattle.condition_lines.proofs.Spelled.{texts, line_of}
use Rattle.condition_lines.proofs.lines.read_line.Goals as goal

pub returns : goal.returns
returns c =
    line_of c.read_words.result c.args.line.now (texts c.as_slice.result.now) (ap texts c.as_slice.ensures.value ∙ c.in_ok-words.ensures) c.read_words.ensures
