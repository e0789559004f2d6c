-- Numbers of reference symbols at which comparisons hold.
use Rattle.std.specs.Prelude.{◌≡◌, ℕ, ◌<◌, ◌==◌, Bool, true, false, List, ◌∷◌, All}
use Rattle.std.specs.List.{list_any}
use Rattle.terms.specs.declared.Literal.{Literal}
use Rattle.proof_checker.specs.declared.Condition.{Condition}
use Rattle.proof_checker.specs.Derivations.{DerivesFrom}
use Rattle.proof_checker.specs.Valuations.{reference_in as number_in}
use Rattle.cond_facts.specs.declared.reference_pairs.Reference.{Reference}
use Rattle.cond_facts.specs.declared.reference_pairs.Reference.TheVariants.{Symbol, Number}
use Rattle.cond_facts.specs.declared.reference_pairs.Pair.{Pair}
use Rattle.cond_facts.specs.declared.reference_facts.References.{References}
use Rattle.cond_facts.specs.declared.reference_facts.References.TheVariants as answers
use Rattle.cond_facts.specs.declared.reference_values.Named.{Named}
use Rattle.cond_facts.specs.ReferencePairs.{has, victim, value_of, AreEqualAt, DifferAt, AreRefuted}
use Rattle.cond_facts.specs.Decisions.{DoReferencesHold}

-- at these numbers of the symbols some pairs are equal and others differ
pub record AreMet (f : ℕ → ℕ) (ps qs : List Pair) : Type 0 where
  pub equal : All (AreEqualAt f) ps
  pub different : All (DifferAt f) qs

-- what is answered of pairs that are to be equal and of others that are to differ
abbrev pub IsAnswerTo : List Pair → List Pair → ℕ → References → Type 0
IsAnswerTo equal different next (answers.Refuted d) = AreRefuted equal different next d
IsAnswerTo equal different next (answers.Values rs) = AreMet (number_in rs) equal different

-- what is answered of the references that literals compare
abbrev pub AreReferencesOf : List Literal → References → Type 0
AreReferencesOf fs (answers.Refuted d) = (c : Condition) → DerivesFrom c fs d
AreReferencesOf fs (answers.Values rs) = DoReferencesHold fs rs

-- the side of an equality that isn't replaced
abbrev pub other_of : Reference → Reference → Reference
other_of (Symbol m) y = y
other_of (Number m) y = Number m

abbrev pub with_number : Reference → ℕ → List (ℕ × ℕ) → List (ℕ × ℕ)
with_number (Symbol n) k rs = (n, k) ∷ rs
with_number (Number m) k rs = rs

-- the replaced side of an equality gets the number of the other side
abbrev pub with_equality : Pair → List (ℕ × ℕ) → List (ℕ × ℕ)
with_equality e rs = with_number (victim e) (value_of (number_in rs) (other_of e.left e.right)) rs

-- the symbol has a number in the list
abbrev pub is_listed : List (ℕ × ℕ) → ℕ → Bool
is_listed rs n = list_any (λ r. n == r.0) rs

-- the number is a side of a pair
abbrev pub is_side : List Pair → ℕ → Bool
is_side ps n = list_any (λ p. has p (Number n)) ps

-- The symbols in a list have numbers of their own, which are below the next one and no side of a pair.
pub record AreOwn (ps : List Pair) (rs : List (ℕ × ℕ)) (next : ℕ) : Type 0 where
  pub below : (n : ℕ) → is_listed rs n ≡ true → number_in rs n < next
  pub unused : (n : ℕ) → is_listed rs n ≡ true → is_side ps (number_in rs n) ≡ false
  pub single : (m n : ℕ) → is_listed rs m ≡ true → is_listed rs n ≡ true → number_in rs m ≡ number_in rs n → m ≡ n

-- symbols with numbers of their own are added
pub record Extends (ps : List Pair) (old new : Named) : Type 0 where
  pub own : AreOwn ps old.values old.next → AreOwn ps new.values new.next
  pub kept : (n : ℕ) → is_listed old.values n ≡ true → is_listed new.values n ≡ true

-- a symbol is in the list
abbrev pub HasNumber : List (ℕ × ℕ) → Reference → Type 0
HasNumber rs (Symbol n) = is_listed rs n ≡ true
HasNumber rs (Number n) = Unit {0}

-- so are those of a pair
pub record HaveNumbers (rs : List (ℕ × ℕ)) (p : Pair) : Type 0 where
  pub left : HasNumber rs p.left
  pub right : HasNumber rs p.right
