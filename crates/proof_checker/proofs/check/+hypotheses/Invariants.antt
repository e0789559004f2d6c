use Rattle.std.proofs.Common.{length, ◌+◌}
use Rattle.proof_checker.proofs.check.+hypotheses.Given as goal

abbrev pub decreases-derives_after : goal.decreases-derives_after
decreases-derives_after l = length l.hyps.now + length l.hyps.now

abbrev pub decreases-after_adding : goal.decreases-after_adding
decreases-after_adding l = length l.hyps.now + length l.hyps.now + 1
