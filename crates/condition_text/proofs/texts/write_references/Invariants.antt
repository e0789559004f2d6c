use Rattle.std.proofs.Common.{◌≡◌, ◌++◌, take, flat_map, string_bytes}
use Rattle.condition_text.specs.Replies.{reference_text}
use Rattle.condition_text.proofs.texts.write_references.Given as goal

abbrev pub invariant-loop-reference : goal.invariant-loop-reference
invariant-loop-reference l =
    string_bytes l.text ≡ string_bytes l.initial.text ++ flat_map reference_text (take l.reference-index l.references)
