use Rattle.std.specs.Prelude.{string_bytes}
use Rattle.condition_text.proofs.Told.{answer_is}
use Rattle.condition_text.proofs.replying.tell_proof.Goals as goal

pub returns : goal.returns
returns c =
    answer_is string_bytes c.told.result c.args.short c.args.c.now c.args.p.now c.requires.sorted c.requires.proof c.told.ensures
