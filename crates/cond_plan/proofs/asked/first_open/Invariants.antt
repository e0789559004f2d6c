use Rattle.std.specs.Prelude.{take}
use Rattle.proof_checker.specs.Derivations.{AreEqual}
use Rattle.cond_plan.proofs.asked.first_open.Given as goal

-- the operands so far are assumed to be equal
abbrev pub invariant-loop-k : goal.invariant-loop-k
invariant-loop-k l = AreEqual l.facts (take l.k l.xs) (take l.k l.ys)
