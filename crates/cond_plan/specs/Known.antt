-- What is known of terms at a point and among assumptions, and what two applications ask for.
use Rattle.std.specs.Prelude.{◌≡◌, ℕ, Bool, ℤ, ◌+ℤ◌, ◌*ℤ◌, ◌≤ℤ◌, ◌⊎◌, List, map, Contains, Option, Some, slice_get}
use Rattle.lin_rows.specs.declared.Point.{Point}
use Rattle.terms.specs.declared.Term.{Term}
use Rattle.terms.specs.declared.Literal.{Literal}
use Rattle.terms.specs.declared.Literal.TheVariants as lit
use Rattle.terms.specs.Meanings.{number_at, last_number, meaning_at}
use Rattle.proof_checker.specs.Conditions.{plain, plus_one}
use Rattle.proof_checker.specs.Derivations.{AreEqual, Assumed}
use Rattle.cond_plan.specs.declared.plan.Applied.{Applied}
use Rattle.cond_plan.specs.declared.gap.Gap.{Gap}
use Rattle.cond_plan.specs.declared.gap.Gap.TheVariants as gap
use Rattle.cond_plan.specs.declared.assumed.Relation.{Relation}
use Rattle.cond_plan.specs.declared.assumed.Relation.TheVariants as relation
use Rattle.cond_plan.specs.declared.repair.Repair.{Repair}
use Rattle.cond_plan.specs.declared.repair.Repair.TheVariants as repair
use Rattle.cond_plan.specs.declared.asked.Asked.{Asked}
use Rattle.cond_plan.specs.declared.asked.Asked.TheVariants as asked
use Rattle.cond_plan.specs.PointValues.{valued_at, AreApartAt}
use Rattle.cond_plan.specs.Needs.{ArePairAt}

-- the term has this number at the point
abbrev pub IsNumberAt : Point → Term → ℤ → Type 0
IsNumberAt p t z = (references : ℕ → ℕ) (flags : ℕ → Bool) → number_at (valued_at p references flags) t ≡ z

-- so has the last of the terms
abbrev pub IsLastNumberAt : Point → List Term → ℤ → Type 0
IsLastNumberAt p ts z =
    (references : ℕ → ℕ) (flags : ℕ → Bool) → last_number (map (number_at (valued_at p references flags)) ts) ≡ z

-- the sum of two numbers that are there
abbrev pub IsSumOf : Option ℤ → Option ℤ → ℤ → Type 0
IsSumOf (Some x) (Some y) z = z ≡ x +ℤ y
IsSumOf a b z = ⊥

-- a multiple of a number that is there
abbrev pub IsMultipleOf : ℤ → Option ℤ → ℤ → Type 0
IsMultipleOf k (Some x) z = z ≡ k *ℤ x
IsMultipleOf k a z = ⊥

-- what is told of two numbers
abbrev pub IsGapOf : ℤ → ℤ → ℤ → Gap → Type 0
IsGapOf unit x y gap.Equal = x ≡ y
IsGapOf unit x y gap.Far = ((x +ℤ unit) ≤ℤ y) ⊎ ((y +ℤ unit) ≤ℤ x)
IsGapOf unit x y gap.Unknown = Unit {0}

-- the literal by which two terms are compared
abbrev pub compared : Relation → Term → Term → Literal
compared relation.Same a b = lit.Same a b
compared relation.Apart a b = lit.Apart a b
compared relation.Below a b = lit.AtMost (plus_one a) b

-- two terms are assumed to be equal, or to be apart, their sides in this order
abbrev pub AreAssumedSame : List Literal → Term → Term → Type 0
AreAssumedSame fs a b = Contains fs (compared relation.Same a b)

abbrev pub AreAssumedApart : List Literal → Term → Term → Type 0
AreAssumedApart fs a b = Contains fs (compared relation.Apart a b)

-- neither of two numbers is assumed to be below the other
pub record AreNotOrdered (fs : List Literal) (a b : Term) : Type 0 where
  pub below : ¬ (Contains fs (lit.AtMost (plus_one a) b))
  pub above : ¬ (Contains fs (lit.AtMost (plus_one b) a))

-- operands in one place that are assumed to be apart are so at the point
abbrev pub ArePlacesSettled : Point → List Literal → List Term → List Term → Type 0
ArePlacesSettled p fs xs ys =
    (k : ℕ) (a b : Term) → slice_get xs k ≡ Some a → slice_get ys k ≡ Some b → AreAssumedApart fs a b → AreApartAt p a b

-- in no place are the operands assumed to be apart
abbrev pub AreNotApart : List Literal → List Term → List Term → Type 0
AreNotApart fs xs ys =
    (k : ℕ) (a b : Term) → slice_get xs k ≡ Some a → slice_get ys k ≡ Some b → ¬ (AreAssumedApart fs a b)

-- the lists mean different things at the point
abbrev pub DoDifferAt : Point → List Term → List Term → Type 0
DoDifferAt p xs ys =
    (references : ℕ → ℕ) (flags : ℕ → Bool) → ¬ (map (meaning_at (valued_at p references flags)) xs ≡ map (meaning_at (valued_at p references flags)) ys)

-- the operands are one term or assumed to be equal
abbrev pub IsEqualPair : List Literal → Term → Term → Type 0
IsEqualPair fs a b = (plain a ≡ plain b) ⊎ Assumed fs (lit.Same a b)

-- the operands in a place aren't assumed to be equal
pub record IsOpenAt (fs : List Literal) (xs ys : List Term) (k : ℕ) : Type 0 where
  pub left : Term
  pub right : Term
  pub at_left : slice_get xs k ≡ Some left
  pub at_right : slice_get ys k ≡ Some right
  pub open_ : ¬ (AreAssumedSame fs left right)

-- two applications with equal operands have equal results at the point
abbrev pub IsCongruentPairAt : Point → Applied → Applied → Type 0
IsCongruentPairAt p f g =
    (references : ℕ → ℕ) (flags : ℕ → Bool) → map (meaning_at (valued_at p references flags)) f.operands ≡ map (meaning_at (valued_at p references flags)) g.operands → meaning_at (valued_at p references flags) f.result ≡ meaning_at (valued_at p references flags) g.result

-- what two applications of one operator ask for
abbrev pub IsAsked : List Literal → Applied → Applied → Asked → Type 0
IsAsked fs f g asked.Results = (f.operator ≡ g.operator) × AreEqual fs f.operands g.operands × ¬ (AreAssumedSame fs f.result g.result)
IsAsked fs f g (asked.Operand k) = (f.operator ≡ g.operator) × IsOpenAt fs f.operands g.operands k × AreNotApart fs f.operands g.operands

-- that of two applications by their numbers
abbrev pub repair_of : ℕ → ℕ → Asked → Repair
repair_of i j asked.Results = repair.Congruence i j
repair_of i j (asked.Operand k) = repair.Operand i j k

-- an application and each later one of its operator are so
abbrev pub AreCongruentFrom : Point → List Applied → ℕ → Type 0
AreCongruentFrom p fs i = (j : ℕ) (f g : Applied) → ArePairAt fs i j f g → IsCongruentPairAt p f g
