-- What the prover answers of a condition.
use Rattle.std.specs.Prelude.{pos, ◌≤ℤ◌, All}
use Rattle.terms.specs.Meanings.{Valued, Holds}
use Rattle.terms.specs.Fitting.{Fits}
use Rattle.proof_checker.specs.declared.Condition.{Condition}
use Rattle.proof_checker.specs.Conditions.{literals_of, HoldsAt}
use Rattle.proof_checker.specs.Derivations.{Derives}
use Rattle.proof_checker.specs.Valuations.{valued_by}
use Rattle.cond_facts.specs.ConditionPoints.{IsWideIn}
use Rattle.cond_facts.specs.Decisions.{IsCounterexample}
use Rattle.cond_prover.specs.declared.prover.Proof.{Proof}
use Rattle.cond_prover.specs.declared.prover.Proof.TheVariants as proofs

-- A derivation of the condition, a counterexample to it whose unit is at least 1, or a wide point of it.
abbrev pub IsProofOf : Condition → Proof → Type 0
IsProofOf c (proofs.Proved d) = Derives c d
IsProofOf c (proofs.Fails v) = (pos 1 ≤ℤ v.q) × IsCounterexample c v
IsProofOf c (proofs.Wide w) = IsWideIn c w

-- What it says of valuations: the condition holds at each of them and every unit, or the valuation fits
-- the condition and makes each hypothesis true and the goal false.
abbrev pub IsMeant : Condition → Proof → Type 0
IsMeant c (proofs.Proved d) = (m : Valued) → HoldsAt m c
IsMeant c (proofs.Fails v) =
    Fits (valued_by v) (literals_of c) × All (Holds (valued_by v)) c.hyps × ¬ (Holds (valued_by v) c.goal)
IsMeant c (proofs.Wide w) = Unit {0}

-- it is proved or fails
abbrev pub IsDecided : Proof → Type 0
IsDecided (proofs.Proved d) = Unit {0}
IsDecided (proofs.Fails v) = Unit {0}
IsDecided (proofs.Wide w) = ⊥
