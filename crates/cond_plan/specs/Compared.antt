-- What a condition compares, literal by literal, and the orders that this gives rise to.
use Rattle.std.specs.Prelude.{◌≡◌, ℕ, [], ◌∷◌, Some, slice_get}
use Rattle.terms.specs.declared.Term.{Term}
use Rattle.terms.specs.declared.Literal.{Literal}
use Rattle.terms.specs.Fitting.{Application, AppliedIn, sides_of}
use Rattle.proof_checker.specs.declared.Condition.{Condition}
use Rattle.proof_checker.specs.Conditions.{literals_of, plus_one}
use Rattle.proof_checker.specs.Derivations.{AreNumbers}

-- Two terms are compared in the literal of a number: they are its sides, or the first is an operand in
-- it and the second the operand in that place of an application of the same operator in the condition.
pub data ComparedIn (c : Condition) (n : ℕ) : Term → Term → Type 0 where
  as_sides : (l : Literal) (a b : Term) → slice_get (literals_of c) n ≡ Some l → sides_of l ≡ Some (a, b) → ComparedIn c n a b
  as_operands : (l : Literal) (f g : Application) (k : ℕ) (a b : Term) → slice_get (literals_of c) n ≡ Some l → AppliedIn (l ∷ []) f → AppliedIn (literals_of c) g → f.operator ≡ g.operator → slice_get f.operands k ≡ Some a → slice_get g.operands k ≡ Some b → ComparedIn c n a b

-- The orders of which the outcomes of a comparison are made: one number is at most another, or at
-- least a unit less.
pub data Outcome (a b : Term) : Term → Term → Type 0 where
  at_most : Outcome a b a b
  at_least : Outcome a b b a
  below : Outcome a b (plus_one a) b
  above : Outcome a b (plus_one b) a

-- An order that the literal of a number gives rise to: an outcome of a comparison of two numbers in it,
-- or one half of the equality of two results of one operator, one of which stands in it.
pub data OrderIn (c : Condition) (n : ℕ) : Term → Term → Type 0 where
  of_comparison : (a b x y : Term) → AreNumbers a b → ComparedIn c n a b → Outcome a b x y → OrderIn c n x y
  of_results : (l : Literal) (f g : Application) → slice_get (literals_of c) n ≡ Some l → AppliedIn (l ∷ []) f → AppliedIn (literals_of c) g → f.operator ≡ g.operator → OrderIn c n f.result g.result
  of_results_turned : (l : Literal) (f g : Application) → slice_get (literals_of c) n ≡ Some l → AppliedIn (l ∷ []) f → AppliedIn (literals_of c) g → f.operator ≡ g.operator → OrderIn c n g.result f.result
