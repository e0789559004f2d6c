use Rattle.std.specs.Prelude.{All, IsTrue}
use Rattle.std.proofs.Common.{take}
use Rattle.terms.specs.Sorts.{sorted}
use Rattle.proof_checker.proofs.condition.Condition.is_sorted.Given as goal

abbrev pub invariant-loop-l : goal.invariant-loop-l
invariant-loop-l l = All (λ k. IsTrue (sorted k)) (take l.l-index l.l-items)
