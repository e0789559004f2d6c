use Rattle.std.specs.Prelude.{◌≡◌, ℕ, ◌<◌, Some, slice_get}
use Rattle.terms.specs.declared.Term.{Term}
use Rattle.cond_plan.specs.Known.{AreAssumedApart}
use Rattle.cond_plan.proofs.asked.do_differ.Given as goal

-- in no place so far are the operands assumed to be apart
abbrev pub invariant-loop-k : goal.invariant-loop-k
invariant-loop-k l =
    (j : ℕ) → j < l.k → (a b : Term) → slice_get l.xs j ≡ Some a → slice_get l.ys j ≡ Some b → ¬ (AreAssumedApart l.facts a b)
