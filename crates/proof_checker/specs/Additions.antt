-- The literals that the parts of a derivation add to the assumptions.
use Rattle.std.specs.Prelude.{◌≡◌, ◌↔◌, ℕ, List, [], ◌∷◌, ◌++◌, Option, Some, slice_get, MatchOption}
use Rattle.terms.specs.declared.Term.{Term}
use Rattle.terms.specs.declared.Literal.{Literal}
use Rattle.terms.specs.declared.Literal.TheVariants as lit
use Rattle.proof_checker.specs.declared.condition.Condition.{Condition}
use Rattle.proof_checker.specs.declared.derivation.Derivation.{Derivation}
use Rattle.proof_checker.specs.declared.view.View.{View}
use Rattle.proof_checker.specs.Conditions.{plain_literal}
use Rattle.proof_checker.specs.Derivations.{DerivesFrom, Splits, Replaced}
use Rattle.proof_checker.specs.Chains.{view_literal}

-- the literal is the only one that has the property
abbrev pub IsOnly : (Literal → Type 0) → Literal → Type 0
IsOnly P m = (k : Literal) → (P k ↔ (k ≡ m))

abbrev pub NoneHas : (Literal → Type 0) → Type 0
NoneHas P = (k : Literal) → ¬ (P k)

-- a view of the only literal that has the property, or none where none has it
abbrev pub Finds : (Literal → Type 0) → Option View → Type 0
Finds P r = MatchOption r (NoneHas P) (λ v. IsOnly P (view_literal v))

-- the literal of the other side of a split on a literal, as an assumption
pub record IsOtherSide (c : Condition) (fs : List Literal) (l m : Literal) : Type 0 where
  pub side : Literal
  pub splits : Splits c fs l side
  pub plain_is : m ≡ plain_literal side

-- an equality put into a literal
pub record IsPutInto (equality into m : Literal) : Type 0 where
  pub left : Term
  pub right : Term
  pub is : equality ≡ lit.Same left right
  pub replaced : Replaced left right into m

-- the assumption of the second number with the equality of the first number put into it
pub record IsReplacement (fs : List Literal) (i j : ℕ) (m : Literal) : Type 0 where
  pub equality : Literal
  pub into : Literal
  pub at_first : slice_get fs i ≡ Some equality
  pub at_second : slice_get fs j ≡ Some into
  pub put : IsPutInto equality into m

-- what is derived from the assumptions and one more that has a property
pub record DerivesWith (c : Condition) (fs : List Literal) (P : Literal → Type 0) (d : Derivation) : Type 0 where
  pub added : Literal
  pub has : P added
  pub more : DerivesFrom c (fs ++ added ∷ []) d
