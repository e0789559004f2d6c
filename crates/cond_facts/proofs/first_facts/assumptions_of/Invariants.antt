use Rattle.std.specs.Prelude.{◌≡◌, take, map}
use Rattle.proof_checker.specs.Conditions.{plain_literal}
use Rattle.cond_facts.proofs.first_facts.assumptions_of.Given as goal

abbrev pub invariant-loop-l : goal.invariant-loop-l
invariant-loop-l l = l.facts ≡ map plain_literal (take l.l-index l.l-items)
