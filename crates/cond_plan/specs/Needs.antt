-- What is amiss at a point where the orders and equalities among assumptions hold.
use Rattle.std.specs.Prelude.{◌≡◌, ℕ, ◌<◌, Bool, List, map, Contains, Some, slice_get}
use Rattle.lin_rows.specs.declared.Point.{Point}
use Rattle.terms.specs.declared.Term.{Term}
use Rattle.terms.specs.declared.Literal.{Literal}
use Rattle.terms.specs.declared.Literal.TheVariants as lit
use Rattle.terms.specs.Meanings.{meaning_at}
use Rattle.proof_checker.specs.Conditions.{plus_one}
use Rattle.proof_checker.specs.Derivations.{AreEqual}
use Rattle.cond_plan.specs.declared.plan.Comparison.{Comparison}
use Rattle.cond_plan.specs.declared.plan.Applied.{Applied}
use Rattle.cond_plan.specs.declared.gap.Gap.{Gap}
use Rattle.cond_plan.specs.declared.gap.Gap.TheVariants as gap
use Rattle.cond_plan.specs.declared.need.Need.{Need}
use Rattle.cond_plan.specs.declared.need.Need.TheVariants as need
use Rattle.cond_plan.specs.declared.need.Needed.{Needed}
use Rattle.cond_plan.specs.declared.repair.Repair.{Repair}
use Rattle.cond_plan.specs.declared.repair.Repair.TheVariants as repair
use Rattle.cond_plan.specs.PointValues.{valued_at, AreEqualAt, AreApartAt, AreClearAt}

-- what is told of two numbers at a point
abbrev pub IsGap : Point → Term → Term → Gap → Type 0
IsGap p a b gap.Equal = AreEqualAt p a b
IsGap p a b gap.Far = AreApartAt p a b
IsGap p a b gap.Unknown = Unit {0}

-- The compared numbers are clear at the point, and apart where they are assumed to be.
pub record IsSettled (p : Point) (fs : List Literal) (k : Comparison) : Type 0 where
  pub clear : AreClearAt p k.left k.right
  pub apart : Contains fs (lit.Apart k.left k.right) → AreApartAt p k.left k.right

-- Nothing is assumed of the two numbers, or that they are apart and not on which side.
abbrev pub IsNeeded : List Literal → Comparison → Need → Type 0
IsNeeded fs k need.Equality = ¬ (Contains fs (lit.Same k.left k.right)) × ¬ (Contains fs (lit.Apart k.left k.right))
IsNeeded fs k need.Side = Contains fs (lit.Apart k.left k.right) × ¬ (Contains fs (lit.AtMost (plus_one k.left) k.right)) × ¬ (Contains fs (lit.AtMost (plus_one k.right) k.left))

-- so it is for the comparison in a place of a list
pub record IsNeededAmong (fs : List Literal) (ks : List Comparison) (n : Needed) : Type 0 where
  pub comparison : Comparison
  pub at_place : slice_get ks n.place ≡ Some comparison
  pub needed : IsNeeded fs comparison n.need

-- two applications of one operator, in the order of their numbers
pub record ArePairAt (fs : List Applied) (i j : ℕ) (f g : Applied) : Type 0 where
  pub order : i < j
  pub at_first : slice_get fs i ≡ Some f
  pub at_second : slice_get fs j ≡ Some g
  pub operator : f.operator ≡ g.operator

-- applications of one operator with equal operands have equal results at the point
abbrev pub AreCongruentAt : Point → List Applied → Type 0
AreCongruentAt p fs =
    (i j : ℕ) (f g : Applied) → ArePairAt fs i j f g → (references : ℕ → ℕ) (flags : ℕ → Bool) → map (meaning_at (valued_at p references flags)) f.operands ≡ map (meaning_at (valued_at p references flags)) g.operands → meaning_at (valued_at p references flags) f.result ≡ meaning_at (valued_at p references flags) g.result

-- two operands in one place of two such applications
pub record AreOperandsAt (fs : List Applied) (i j k : ℕ) (a b : Term) : Type 0 where
  pub first : Applied
  pub second : Applied
  pub pair : ArePairAt fs i j first second
  pub at_first : slice_get first.operands k ≡ Some a
  pub at_second : slice_get second.operands k ≡ Some b

-- operands that are assumed to be apart are so at the point
abbrev pub AreOperandsSettled : Point → List Literal → List Applied → Type 0
AreOperandsSettled p facts fs =
    (i j k : ℕ) (a b : Term) → AreOperandsAt fs i j k a b → Contains facts (lit.Apart a b) → AreApartAt p a b

-- The operands of two applications are assumed to be equal and their results aren't yet, or nothing is
-- assumed of two of their operands.
abbrev pub IsRepair : List Literal → List Applied → Repair → Type 0
IsRepair facts fs (repair.Congruence i j) =
    (f : Applied) × (g : Applied) × ArePairAt fs i j f g × AreEqual facts f.operands g.operands × ¬ (Contains facts (lit.Same f.result g.result))
IsRepair facts fs (repair.Operand i j k) =
    (a : Term) × (b : Term) × AreOperandsAt fs i j k a b × ¬ (Contains facts (lit.Same a b)) × ¬ (Contains facts (lit.Apart a b))
