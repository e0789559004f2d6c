use Rattle.std.proofs.Common.{◌≡◌, ◌++◌, drop}
use Rattle.machine_model.specs.Frames.{caps_without}
use Rattle.machine_items.proofs.locks.caps_without.Given as goal

abbrev pub invariant-loop-cap : goal.invariant-loop-cap
invariant-loop-cap l = l.left ++ caps_without l.lock (drop l.cap-index l.caps) ≡ caps_without l.lock l.caps
