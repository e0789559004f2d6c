use Rattle.std.specs.Prelude.{All, take, true}
use Rattle.cond_facts.specs.Decisions.{AreRowsTold}
use Rattle.cond_prover.proofs.wide_facts.wide_fact.Given as goal

abbrev pub invariant-loop-place : goal.invariant-loop-place
invariant-loop-place l = All (λ k. AreRowsTold k true) (take l.place l.fn.facts)
