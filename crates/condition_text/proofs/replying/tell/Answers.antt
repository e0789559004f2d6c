use Rattle.std.specs.Prelude.{string_bytes}
use Rattle.condition_text.proofs.Told.{unsorted_is, not_sorted}
use Rattle.condition_text.proofs.replying.tell.Goals as goal

pub returns-in_ok-from_str : goal.returns-in_ok-from_str
returns-in_ok-from_str c =
    unsorted_is c.args.short c.args.c.now (string_bytes c.in_ok-from_str.field-0) (not_sorted c.is_sorted.result c.args.c.now c.is_sorted.ensures c.if-is_sorted.false) c.in_ok-from_str.ensures.ok
