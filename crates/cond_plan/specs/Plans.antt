-- What a condition compares and applies, as lists.
use Rattle.std.specs.Prelude.{◌≡◌, ℕ, ◌<◌, List, [], ◌∷◌, All, Contains, Some, slice_get}
use Rattle.terms.specs.declared.Term.{Term}
use Rattle.terms.specs.declared.Literal.{Literal}
use Rattle.terms.specs.Fitting.{Application, AppliedIn, sides_of, terms_in}
use Rattle.proof_checker.specs.declared.Condition.{Condition}
use Rattle.proof_checker.specs.Conditions.{literals_of}
use Rattle.proof_checker.specs.Derivations.{AreNumbers, Numbered}
use Rattle.cond_plan.specs.declared.plan.Comparison.{Comparison}
use Rattle.cond_plan.specs.declared.plan.Applied.{Applied}
use Rattle.cond_plan.specs.declared.plan.Plan.{Plan}
use Rattle.cond_plan.specs.Applied.{application_of}
use Rattle.cond_plan.specs.Compared.{ComparedIn}

-- two numbers are compared in the literal of the comparison's place
pub record IsComparison (c : Condition) (k : Comparison) : Type 0 where
  pub numbers : AreNumbers k.left k.right
  pub compared : ComparedIn c k.place k.left k.right

-- the comparison of two terms is listed
abbrev pub IsListed : List Comparison → Term → Term → Type 0
IsListed ks a b = (k : Comparison) × Contains ks k × (k.left ≡ a) × (k.right ≡ b)

-- the application stands in the literal of its place
pub record IsPlaced (c : Condition) (f : Applied) : Type 0 where
  pub literal : Literal
  pub at_place : slice_get (literals_of c) f.place ≡ Some literal
  pub stands : AppliedIn (literal ∷ []) (application_of f)

-- the applications of a condition, each in the place of its number
pub record AreApplications (c : Condition) (fs : List Applied) : Type 0 where
  pub numbered : (i : ℕ) (f : Applied) → slice_get fs i ≡ Some f → Numbered [] (terms_in (literals_of c)) i (application_of f)
  pub placed : All (IsPlaced c) fs
  pub all : (f : Application) → AppliedIn (literals_of c) f → (g : Applied) × Contains fs g × (application_of g ≡ f)

-- The comparisons are of numbers that the condition compares. The sides of each literal are listed, and
-- so are the operands in each place of two applications of one operator, in the order of their numbers.
pub record AreComparisons (c : Condition) (fs : List Applied) (ks : List Comparison) : Type 0 where
  pub compared : All (IsComparison c) ks
  pub sides : (l : Literal) (a b : Term) → Contains (literals_of c) l → sides_of l ≡ Some (a, b) → AreNumbers a b → IsListed ks a b
  pub operands : (i j : ℕ) (f g : Applied) (k : ℕ) (a b : Term) → i < j → slice_get fs i ≡ Some f → slice_get fs j ≡ Some g → f.operator ≡ g.operator → slice_get f.operands k ≡ Some a → slice_get g.operands k ≡ Some b → IsListed ks a b

-- all operands and results are of numbers
abbrev pub AreOfNumbers : List Applied → Type 0
AreOfNumbers = All (λ f. AreNumbers f.result f.result × All (λ t. AreNumbers t t) f.operands)

pub record IsPlan (c : Condition) (p : Plan) : Type 0 where
  pub applications : AreApplications c p.applications
  pub comparisons : AreComparisons c p.applications p.comparisons
  pub numbers : AreOfNumbers p.applications
