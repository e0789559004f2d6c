use Rattle.std.proofs.Common.{◌≡◌, ◌++◌, take, flat_map, string_bytes}
use Rattle.condition_text.specs.Replies.{flag_text}
use Rattle.condition_text.proofs.texts.write_flags.Given as goal

abbrev pub invariant-loop-flag : goal.invariant-loop-flag
invariant-loop-flag l =
    string_bytes l.text ≡ string_bytes l.initial.text ++ flat_map flag_text (take l.flag-index l.flags)
