-- What is answered of the literals of numbers among assumptions.
use Rattle.std.specs.Prelude.{◌≡◌, ℕ, ◌≤◌, ◌<◌, ◌^◌, ◌-ℤ◌, ◌⊎◌, ◌≢◌, pos, unsigned_abs, IsTrue, List, All, Option}
use Rattle.lin_rows.specs.declared.Row.{Row}
use Rattle.lin_rows.specs.declared.WidePoint.{WidePoint}
use Rattle.lin_rows.specs.WidePoints.{IsWidePointOf}
use Rattle.terms.specs.declared.Term.{Term}
use Rattle.terms.specs.declared.Literal.{Literal}
use Rattle.terms.specs.declared.Literal.TheVariants as lit
use Rattle.terms.specs.Forms.{AllFormsFit, form_of}
use Rattle.proof_checker.specs.declared.Condition.{Condition}
use Rattle.proof_checker.specs.Rows.{AreAllRows}
use Rattle.proof_checker.specs.Derivations.{DerivesFrom}
use Rattle.cond_plan.specs.PointValues.{IsMet, of_order}
use Rattle.cond_facts.specs.FactRows.{present, IsWideAt}
use Rattle.cond_facts.specs.declared.row_facts.RowOutcome.{RowOutcome}
use Rattle.cond_facts.specs.declared.row_facts.RowOutcome.TheVariants as outcomes

-- a number of the elimination of the rows is outside 128 bits
abbrev pub IsWideOf : List Literal → WidePoint → Type 0
IsWideOf fs w = (rows : List (Option Row)) × AreAllRows fs rows × IsWidePointOf (present rows) w

abbrev pub IsOutcome : List Literal → RowOutcome → Type 0
IsOutcome fs (outcomes.Refuted d) = (c : Condition) → DerivesFrom c fs d
IsOutcome fs (outcomes.Met p) = IsMet fs p
IsOutcome fs (outcomes.Wide w) = IsWideOf fs w
IsOutcome fs (outcomes.Form i) = IsWideAt fs i

-- it is decided: refuted or met
abbrev pub IsDecided : RowOutcome → Type 0
IsDecided (outcomes.Refuted d) = Unit {0}
IsDecided (outcomes.Met p) = Unit {0}
IsDecided (outcomes.Wide w) = ⊥
IsDecided (outcomes.Form i) = ⊥

-- The row of the order has no number above 2 ^ 11, no variable but these three, and the forms of its
-- sides are within 128 bits.
pub record IsNarrowOrder (u v w : ℕ) (a b : Term) : Type 0 where
  pub left : AllFormsFit a
  pub right : AllFormsFit b
  pub coefs : (x : ℕ) → unsigned_abs ((form_of a).coefs x -ℤ (form_of b).coefs x) ≤ 2 ^ 11
  pub units : unsigned_abs ((form_of b).units -ℤ (form_of a).units) ≤ 2 ^ 11
  pub variables : (x : ℕ) → (form_of a).coefs x -ℤ (form_of b).coefs x ≢ pos 0 → (x ≡ u) ⊎ ((x ≡ v) ⊎ (x ≡ w))

-- the rows of the literal are so
abbrev pub IsNarrowFact : ℕ → ℕ → ℕ → Literal → Type 0
IsNarrowFact u v w (lit.AtMost a b) = IsTrue (of_order (lit.AtMost a b)) → IsNarrowOrder u v w a b
IsNarrowFact u v w (lit.Same a b) = IsTrue (of_order (lit.Same a b)) → IsNarrowOrder u v w a b
IsNarrowFact u v w l = Unit {0}

-- so are those of all literals
abbrev pub AreNarrow : List Literal → Type 0
AreNarrow fs = (u : ℕ) × (v : ℕ) × (w : ℕ) × (u < v) × (v < w) × All (IsNarrowFact u v w) fs
