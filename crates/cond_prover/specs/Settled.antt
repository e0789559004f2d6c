-- What is answered of the references and flags among assumptions.
use Rattle.std.specs.Prelude.{List}
use Rattle.terms.specs.declared.Literal.{Literal}
use Rattle.proof_checker.specs.declared.Condition.{Condition}
use Rattle.proof_checker.specs.Derivations.{DerivesFrom}
use Rattle.cond_facts.specs.Decisions.{DoReferencesHold, DoFlagsHold}
use Rattle.cond_prover.specs.declared.settled.Settled.{Settled}
use Rattle.cond_prover.specs.declared.settled.Settled.TheVariants as answers
use Rattle.cond_prover.specs.declared.settled.Settings.{Settings}

-- what the assumptions say of references and flags holds by these
pub record DoHold (fs : List Literal) (s : Settings) : Type 0 where
  pub references : DoReferencesHold fs s.refs
  pub flags : DoFlagsHold fs s.flags

-- they can't hold together, or hold by these
abbrev pub AreSettled : List Literal → Settled → Type 0
AreSettled fs (answers.Refuted d) = (c : Condition) → DerivesFrom c fs d
AreSettled fs (answers.By s) = DoHold fs s
