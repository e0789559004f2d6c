-- Terms that a condition compares.
use Rattle.std.specs.Prelude.{◌≡◌, ℕ, ◌==◌, Bool, false, ◌||◌, ◌&&◌, List, [], ◌∷◌, Contains, Some, slice_get}
use Rattle.terms.specs.declared.Term.{Term}
use Rattle.terms.specs.declared.Literal.{Literal}
use Rattle.terms.specs.Fitting.{Application, AppliedIn, sides_of, terms_in}
use Rattle.terms.specs.Sameness.{same_term}
use Rattle.proof_checker.specs.declared.condition.Condition.{Condition}
use Rattle.proof_checker.specs.Conditions.{literals_of}
use Rattle.proof_checker.specs.Uses.{Chosen, chosen_in, some_chosen}

-- two terms are the sides of one of the literals
abbrev pub AreSides : List Literal → Term → Term → Type 0
AreSides ls a b = (l : Literal) × Contains ls l × (sides_of l ≡ Some (a, b))

-- two terms stand in one place of the operands of two applications of one operator
pub record AreOperands (ls : List Literal) (a b : Term) : Type 0 where
  pub first : Application
  pub second : Application
  pub place : ℕ
  pub first_stands : AppliedIn ls first
  pub second_stands : AppliedIn ls second
  pub operator : first.operator ≡ second.operator
  pub at_first : slice_get first.operands place ≡ Some a
  pub at_second : slice_get second.operands place ≡ Some b

-- in some place one list has the one term and the other list the other one
abbrev pub placed : List Term → List Term → Term → Term → Bool
placed (x ∷ xs) (y ∷ ys) a b = (same_term x a && same_term y b) || placed xs ys a b
placed xs ys a b = false

-- wherever an application stands
abbrev pub anywhere : (Application → Bool) → Chosen
anywhere q before t f = q f

-- two applications are of one operator and have two terms in one place
abbrev pub is_applied : Application → Term → Term → Application → Bool
is_applied f a b g = (f.operator == g.operator) && placed f.operands g.operands a b

-- for an application there is another one in the condition with which it has two terms in one place
abbrev pub is_applying : Condition → Term → Term → Application → Bool
is_applying c a b f = some_chosen (chosen_in (anywhere (is_applied f a b)) [] (terms_in (literals_of c)))
