use Rattle.std.proofs.Common.{◌≡◌, ◌++◌, drop}
use Rattle.machine_model.specs.Frames.{kept_caps}
use Rattle.machine_items.proofs.returning.kept_caps.Given as goal

abbrev pub invariant-loop-cap : goal.invariant-loop-cap
invariant-loop-cap l = l.kept ++ kept_caps l.heap l.thread (drop l.cap-index l.caps) ≡ kept_caps l.heap l.thread l.caps
