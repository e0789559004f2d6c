-- What a derivation derives.
use Rattle.std.specs.Prelude.{◌≡◌, ◌≢◌, ℕ, ◌+◌, Bool, not, ◌⊎◌, IsTrue, List, [], ◌∷◌, ◌++◌, map, Contains, Option, Some, slice_get}
use Rattle.lin_rows.specs.declared.Row.{Row}
use Rattle.lin_rows.specs.declared.ComboStep.{ComboStep}
use Rattle.lin_rows.specs.Steps.{IsCombination}
use Rattle.terms.specs.declared.Term.{Term, RefLit}
use Rattle.terms.specs.declared.Literal.{Literal}
use Rattle.terms.specs.declared.Literal.TheVariants as lit
use Rattle.terms.specs.Sorts.{of_numbers, of_references}
use Rattle.terms.specs.Fitting.{Application, Applies, AreCompared, terms_in}
use Rattle.proof_checker.specs.declared.condition.Condition.{Condition}
use Rattle.proof_checker.specs.declared.derivation.Derivation.{Derivation, Derivation-F, out-Derivation}
use Rattle.proof_checker.specs.Conditions.{literals_of, opposite, plain, plain_literal, plus_one}
use Rattle.proof_checker.specs.Replacing.{put_in}
use Rattle.proof_checker.specs.Rows.{AreAllRows}

-- the sides of an equality or its opposite exchanged
abbrev pub turned : Literal → Literal
turned (lit.Same a b) = lit.Same b a
turned (lit.Apart a b) = lit.Apart b a
turned l = l

-- the literal is assumed, its sides in either order
abbrev pub Assumed : List Literal → Literal → Type 0
Assumed fs l = Contains fs (plain_literal l) ⊎ Contains fs (plain_literal (turned l))

-- two numbers that the condition compares, in either order
abbrev pub ArePair : Condition → Term → Term → Type 0
ArePair c a b = AreCompared (literals_of c) a b ⊎ AreCompared (literals_of c) b a

-- both are of numbers
pub record AreNumbers (a b : Term) : Type 0 where
  pub left : IsTrue (of_numbers a)
  pub right : IsTrue (of_numbers b)

pub record AreReferences (a b : Term) : Type 0 where
  pub left : IsTrue (of_references a)
  pub right : IsTrue (of_references b)

-- `a + 1 <= b` where `a` and `b` are assumed to be apart
abbrev pub SplitsApart : List Literal → Term → Term → Term → Type 0
SplitsApart fs first a b = (first ≡ plus_one a) × Assumed fs (lit.Apart a b)

-- A split on a literal, and the literal of its other side: a flag, an equality of references, an
-- equality or an order of numbers that the condition compares, or the two sides on which numbers lie
-- that are assumed to be apart.
pub data Splits (c : Condition) (fs : List Literal) : Literal → Literal → Type 0 where
  flag : (n : ℕ) (held : Bool) → Splits c fs (lit.Flag n held) (lit.Flag n (not held))
  same_reference : (a b : Term) → AreReferences a b → Splits c fs (lit.Same a b) (lit.Apart a b)
  other_reference : (a b : Term) → AreReferences a b → Splits c fs (lit.Apart a b) (lit.Same a b)
  same_number : (a b : Term) → AreNumbers a b → ArePair c a b → Splits c fs (lit.Same a b) (lit.Apart a b)
  order : (a b : Term) → AreNumbers a b → ArePair c a b → ((x : Term) → ¬ (SplitsApart fs a x b)) → Splits c fs (lit.AtMost a b) (lit.AtMost (plus_one b) a)
  apart : (a b : Term) → AreNumbers a b → Assumed fs (lit.Apart a b) → Splits c fs (lit.AtMost (plus_one a) b) (lit.AtMost (plus_one b) a)

-- `a` stands in the literal
abbrev pub StandsIn : Term → Literal → Type 0
StandsIn a l = Contains (terms_in (l ∷ [])) a

-- the literal with the right side of an equality put everywhere for its left side, or, where the left
-- side doesn't stand in it, the other way round
pub data Replaced (a b : Term) (l : Literal) : Literal → Type 0 where
  forth : StandsIn a l → Replaced a b l (put_in a b l)
  back : ¬ (StandsIn a l) → Replaced a b l (put_in b a l)

-- the application of number `n` among terms, each counted where it first stands; `before` are those
-- that stand before
pub data Numbered : List Term → List Term → ℕ → Application → Type 0 where
  here : (before : List Term) (t : Term) (ts : List Term) (f : Application) → Applies t f → ¬ (Contains before t) → Numbered before (t ∷ ts) 0 f
  later : (before : List Term) (t : Term) (ts : List Term) (g : Application) (n : ℕ) (f : Application) → Applies t g → ¬ (Contains before t) → Numbered (before ++ t ∷ []) ts n f → Numbered before (t ∷ ts) (n + 1) f
  again : (before : List Term) (t : Term) (ts : List Term) (n : ℕ) (f : Application) → Contains before t → Numbered before ts n f → Numbered before (t ∷ ts) n f
  other : (before : List Term) (t : Term) (ts : List Term) (n : ℕ) (f : Application) → ((g : Application) → ¬ (Applies t g)) → Numbered before ts n f → Numbered before (t ∷ ts) n f

-- the operands are one term or assumed to be equal, place by place
abbrev pub AreEqual : List Literal → List Term → List Term → Type 0
AreEqual fs [] [] = Unit {0}
AreEqual fs (a ∷ as_) (b ∷ bs) = ((plain a ≡ plain b) ⊎ Assumed fs (lit.Same a b)) × AreEqual fs as_ bs
AreEqual fs as_ bs = ⊥

-- one is the opposite of the other, or its sides exchanged
abbrev pub IsOpposite : Literal → Literal → Type 0
IsOpposite l k = (k ≡ opposite l) ⊎ (k ≡ turned (opposite l))

-- a literal is false by itself: a term is apart from itself, or two reference numbers are the same
pub data IsFalse : Literal → Type 0 where
  apart_itself : (a : Term) → IsFalse (lit.Apart a a)
  same_numbers : (m n : ℕ) → m ≢ n → IsFalse (lit.Same (RefLit m) (RefLit n))

-- A derivation derives a condition from assumptions: they don't hold together.
pub data DerivesFrom (c : Condition) : List Literal → Derivation → Type 0 where
  split : (fs : List Literal) (d held else_ : Derivation) (l k : Literal) → out-Derivation d ≡ Derivation-F.Split l held else_ → Splits c fs l k → DerivesFrom c (fs ++ plain_literal l ∷ []) held → DerivesFrom c (fs ++ plain_literal k ∷ []) else_ → DerivesFrom c fs d
  replace : (fs : List Literal) (d rest : Derivation) (i j : ℕ) (a b : Term) (l k : Literal) → out-Derivation d ≡ Derivation-F.Replace i j rest → slice_get fs i ≡ Some (lit.Same a b) → slice_get fs j ≡ Some l → Replaced a b l k → DerivesFrom c (fs ++ k ∷ []) rest → DerivesFrom c fs d
  congruent : (fs : List Literal) (d rest : Derivation) (i j : ℕ) (f g : Application) → out-Derivation d ≡ Derivation-F.Congruent i j rest → Numbered [] (terms_in (literals_of c)) i f → Numbered [] (terms_in (literals_of c)) j g → f.operator ≡ g.operator → AreEqual fs f.operands g.operands → DerivesFrom c (fs ++ plain_literal (lit.Same f.result g.result) ∷ []) rest → DerivesFrom c fs d
  clash : (fs : List Literal) (d : Derivation) (i j : ℕ) (l k : Literal) → out-Derivation d ≡ Derivation-F.Clash i j → slice_get fs i ≡ Some l → slice_get fs j ≡ Some k → IsOpposite l k ⊎ IsOpposite k l → DerivesFrom c fs d
  false_itself : (fs : List Literal) (d : Derivation) (i : ℕ) (l : Literal) → out-Derivation d ≡ Derivation-F.Clash i i → slice_get fs i ≡ Some l → IsFalse l → DerivesFrom c fs d
  combine : (fs : List Literal) (d : Derivation) (steps : List ComboStep) (rows : List (Option Row)) → out-Derivation d ≡ Derivation-F.Combine steps → AreAllRows fs rows → IsCombination rows steps → DerivesFrom c fs d

-- the hypotheses, and the opposite of the goal
abbrev pub first_assumptions : Condition → List Literal
first_assumptions c = map plain_literal (c.hyps ++ opposite c.goal ∷ [])

abbrev pub Derives : Condition → Derivation → Type 0
Derives c d = DerivesFrom c (first_assumptions c) d
