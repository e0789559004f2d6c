-- What is decided of the numbers among assumptions.
use Rattle.std.specs.Prelude.{List}
use Rattle.terms.specs.declared.Literal.{Literal}
use Rattle.proof_checker.specs.declared.Condition.{Condition}
use Rattle.proof_checker.specs.Derivations.{DerivesFrom}
use Rattle.cond_facts.specs.ConditionPoints.{IsWideIn}
use Rattle.cond_facts.specs.Decisions.{IsFittingPoint}
use Rattle.cond_search.specs.declared.decided.Decided.{Decided}
use Rattle.cond_search.specs.declared.decided.Decided.TheVariants as verdict

-- A derivation of the condition from the assumptions, a point where the comparisons of numbers among them
-- hold and that fits the condition, or a wide point of the condition.
abbrev pub IsDecision : Condition → List Literal → Decided → Type 0
IsDecision c fs (verdict.Refuted d) = DerivesFrom c fs d
IsDecision c fs (verdict.Fits p) = IsFittingPoint c fs p
IsDecision c fs (verdict.Wide w) = IsWideIn c w

-- it isn't wide
abbrev pub IsDecided : Decided → Type 0
IsDecided (verdict.Refuted d) = Unit {0}
IsDecided (verdict.Fits p) = Unit {0}
IsDecided (verdict.Wide w) = ⊥
