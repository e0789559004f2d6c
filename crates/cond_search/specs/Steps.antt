-- Steps of the search.
use Rattle.std.specs.Prelude.{◌≡◌, ℕ, ◌⊎◌, Bool, true, false, IsTrue, List, [], All}
use Rattle.terms.specs.declared.Term.{Term}
use Rattle.terms.specs.declared.Literal.{Literal}
use Rattle.terms.specs.declared.Literal.TheVariants as lit
use Rattle.terms.specs.Sorts.{sorted}
use Rattle.terms.specs.Fitting.{Application, terms_in}
use Rattle.proof_checker.specs.declared.Condition.{Condition}
use Rattle.proof_checker.specs.Conditions.{literals_of, IsSorted, plain_literal, plus_one}
use Rattle.proof_checker.specs.Derivations.{Splits, Numbered, AreEqual}
use Rattle.cond_plan.specs.declared.Plan.{Plan}
use Rattle.cond_plan.specs.declared.Need.{Need}
use Rattle.cond_plan.specs.declared.Need.TheVariants as need
use Rattle.cond_plan.specs.Compared.{OrderIn}
use Rattle.cond_plan.specs.Plans.{IsPlan}
use Rattle.cond_plan.specs.Needs.{IsNeededAmong, IsRepair}
use Rattle.cond_facts.specs.ConditionPoints.{AreFormsWithin}
use Rattle.cond_facts.specs.Decisions.{IsOrderOf, IsFactOf, IsApartListed, AreRowsTold}
use Rattle.cond_search.specs.declared.step.Split.{Split}
use Rattle.cond_search.specs.declared.step.Congruence.{Congruence}
use Rattle.cond_search.specs.declared.step.Step.{Step}
use Rattle.cond_search.specs.declared.step.Step.TheVariants as steps
use Rattle.cond_search.specs.declared.amiss.Amiss.{Amiss}
use Rattle.cond_search.specs.declared.amiss.Amiss.TheVariants as amiss
use Rattle.cond_search.specs.Verdicts.{IsDecision, IsDecided}
use Rattle.cond_search.specs.Questions.{IsAnswer}

-- What the search begins with, and each of its branches: a sorted condition whose linear forms are within
-- 128 bits, its plan, and assumptions that it gives rise to.
pub record IsBegun (c : Condition) (p : Plan) (fs : List Literal) : Type 0 where
  pub is_sorted : IsSorted c
  pub plan : IsPlan c p
  pub forms : AreFormsWithin c
  pub facts : All (IsFactOf c) fs
  pub apart : All (IsApartListed p) fs

-- A literal answers an open question. Its orders are orders of the condition's literal of a number, and
-- nothing is said of their rows.
pub record IsProposed (c : Condition) (p : Plan) (fs : List Literal) (n : ℕ) (l : Literal) : Type 0 where
  pub is_sorted : IsTrue (sorted l)
  pub is_plain : plain_literal l ≡ l
  pub orders : (x y : Term) → IsOrderOf l x y → OrderIn c n x y
  pub listed : IsApartListed p l
  pub answer : IsAnswer p fs l

-- A literal that the condition gives rise to answers an open question: it may be assumed next.
pub record IsNext (c : Condition) (p : Plan) (fs : List Literal) (l : Literal) : Type 0 where
  pub fact : IsFactOf c l
  pub listed : IsApartListed p l
  pub answer : IsAnswer p fs l

-- a split on the first literal has the second as its other side, and both are plain
pub record IsSplit (c : Condition) (fs : List Literal) (s : Split) : Type 0 where
  pub splits : Splits c fs s.first s.second
  pub first_plain : plain_literal s.first ≡ s.first
  pub second_plain : plain_literal s.second ≡ s.second

-- The applications of two numbers are of one operator, their operands are assumed to be equal, and the
-- literal is the equality of their results.
pub record IsCongruence (c : Condition) (fs : List Literal) (k : Congruence) : Type 0 where
  pub left : Application
  pub right : Application
  pub at_left : Numbered [] (terms_in (literals_of c)) k.left left
  pub at_right : Numbered [] (terms_in (literals_of c)) k.right right
  pub operator : left.operator ≡ right.operator
  pub operands : AreEqual fs left.operands right.operands
  pub results : k.results ≡ lit.Same left.result right.result
  pub is_plain : plain_literal k.results ≡ k.results

-- the split of two numbers that is needed
abbrev pub IsSplitOf : Need → Term → Term → Split → Type 0
IsSplitOf need.Equality a b s = (s.first ≡ lit.Same a b) × (s.second ≡ lit.Apart a b)
IsSplitOf need.Side a b s = (s.first ≡ lit.AtMost (plus_one a) b) × (s.second ≡ lit.AtMost (plus_one b) a)

-- whether the rows of both literals are within 128 bits
abbrev pub AreBothTold : Split → Bool → Type 0
AreBothTold s true = AreRowsTold s.first true × AreRowsTold s.second true
AreBothTold s false = AreRowsTold s.first false ⊎ AreRowsTold s.second false

-- what is amiss at a point
abbrev pub IsAmiss : List Literal → Plan → Amiss → Type 0
IsAmiss fs p (amiss.Comparison n) = IsNeededAmong fs p.comparisons n
IsAmiss fs p (amiss.Applications r) = IsRepair fs p.applications r

-- a split whose literals answer an open question
pub record IsProposedSplit (c : Condition) (p : Plan) (fs : List Literal) (n : ℕ) (s : Split) : Type 0 where
  pub split : IsSplit c fs s
  pub first : IsProposed c p fs n s.first
  pub second : IsProposed c p fs n s.second

-- so that each may be assumed next
pub record IsNextSplit (c : Condition) (p : Plan) (fs : List Literal) (s : Split) : Type 0 where
  pub split : IsSplit c fs s
  pub first : IsNext c p fs s.first
  pub second : IsNext c p fs s.second

-- the same for the results of two applications
pub record IsProposedCongruence (c : Condition) (p : Plan) (fs : List Literal) (n : ℕ) (k : Congruence) : Type 0 where
  pub congruence : IsCongruence c fs k
  pub results : IsProposed c p fs n k.results

pub record IsNextCongruence (c : Condition) (p : Plan) (fs : List Literal) (k : Congruence) : Type 0 where
  pub congruence : IsCongruence c fs k
  pub results : IsNext c p fs k.results

-- an answer, or what may be assumed next
abbrev pub IsStep : Condition → Plan → List Literal → Step → Type 0
IsStep c p fs (steps.Done d) = IsDecision c fs d
IsStep c p fs (steps.Split s) = IsNextSplit c p fs s
IsStep c p fs (steps.Congruence k) = IsNextCongruence c p fs k

-- it isn't wide
abbrev pub IsNarrowStep : Step → Type 0
IsNarrowStep (steps.Done d) = IsDecided d
IsNarrowStep (steps.Split s) = Unit {0}
IsNarrowStep (steps.Congruence k) = Unit {0}
