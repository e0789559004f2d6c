-- What is decided of a condition.
use Rattle.std.specs.Prelude.{◌≡◌, ℕ, Bool, true, false, pos, ◌≤ℤ◌, IsTrue, ◌&&◌, List, map, All, Some, slice_get}
use Rattle.lin_rows.specs.declared.Point.{Point}
use Rattle.terms.specs.declared.Term.{Term}
use Rattle.terms.specs.declared.Literal.{Literal}
use Rattle.terms.specs.declared.Literal.TheVariants as lit
use Rattle.terms.specs.Sorts.{of_numbers, sorted}
use Rattle.terms.specs.Fitting.{Application, AppliedIn, AreCompared, Fits}
use Rattle.terms.specs.Meanings.{Valued, Holds, meaning_at}
use Rattle.proof_checker.specs.declared.Condition.{Condition}
use Rattle.proof_checker.specs.declared.Valuation.{Valuation}
use Rattle.proof_checker.specs.Conditions.{literals_of, plain_literal}
use Rattle.proof_checker.specs.Derivations.{AreNumbers, DerivesFrom, Derives}
use Rattle.proof_checker.specs.Rows.{RowFits}
use Rattle.proof_checker.specs.Valuations.{valued_by, reference_in, flag_in}
use Rattle.cond_plan.specs.declared.Plan.{Plan}
use Rattle.cond_plan.specs.Compared.{OrderIn}
use Rattle.cond_plan.specs.Plans.{IsListed}
use Rattle.cond_plan.specs.PointValues.{valued_at, HoldsAtPoint, AreClearAt}
use Rattle.cond_facts.specs.ReferencePairs.{ComparesReferences}

-- a comparison of two numbers
abbrev pub of_comparison : Literal → Bool
of_comparison (lit.AtMost a b) = of_numbers a && of_numbers b
of_comparison (lit.Same a b) = of_numbers a && of_numbers b
of_comparison (lit.Apart a b) = of_numbers a && of_numbers b
of_comparison (lit.Flag n held) = false

-- the orders of which a literal of numbers is made
pub data IsOrderOf : Literal → Term → Term → Type 0 where
  at_most : (a b : Term) → AreNumbers a b → IsOrderOf (lit.AtMost a b) a b
  forth : (a b : Term) → AreNumbers a b → IsOrderOf (lit.Same a b) a b
  back : (a b : Term) → AreNumbers a b → IsOrderOf (lit.Same a b) b a

-- An assumption that the condition gives rise to: its orders are orders of the condition's literals, with
-- rows within 128 bits.
pub record IsFactOf (c : Condition) (l : Literal) : Type 0 where
  pub is_sorted : IsTrue (sorted l)
  pub is_plain : plain_literal l ≡ l
  pub orders : (x y : Term) → IsOrderOf l x y → (n : ℕ) × OrderIn c n x y
  pub fit : (x y : Term) → IsOrderOf l x y → RowFits x y

-- numbers that are assumed to be apart are listed as compared
abbrev pub IsApartListed : Plan → Literal → Type 0
IsApartListed p l = (a b : Term) → l ≡ lit.Apart a b → AreNumbers a b → IsListed p.comparisons a b

-- At the point the comparisons of numbers among the assumptions hold, and the condition is fitted, whatever
-- the references and flags are.
pub record IsFittingPoint (c : Condition) (fs : List Literal) (p : Point) : Type 0 where
  pub unit : pos 1 ≤ℤ p.q
  pub hold : All (λ l. IsTrue (of_comparison l) → HoldsAtPoint p l) fs
  pub clear : (a b : Term) → AreNumbers a b → AreCompared (literals_of c) a b → AreClearAt p a b
  pub congruent : (f g : Application) → AppliedIn (literals_of c) f → AppliedIn (literals_of c) g → f.operator ≡ g.operator → (references : ℕ → ℕ) (flags : ℕ → Bool) → map (meaning_at (valued_at p references flags)) f.operands ≡ map (meaning_at (valued_at p references flags)) g.operands → meaning_at (valued_at p references flags) f.result ≡ meaning_at (valued_at p references flags) g.result

-- A valuation that fits the condition and makes the hypotheses true and the goal false.
pub record IsCounterexample (c : Condition) (v : Valuation) : Type 0 where
  pub fits : Fits (valued_by v) (literals_of c)
  pub hypotheses : All (Holds (valued_by v)) c.hyps
  pub goal : ¬ (Holds (valued_by v) c.goal)

-- whether the rows of a literal's orders are within 128 bits
abbrev pub AreRowsTold : Literal → Bool → Type 0
AreRowsTold l true = (x y : Term) → IsOrderOf l x y → RowFits x y
AreRowsTold l false = (x : Term) × (y : Term) × IsOrderOf l x y × ¬ (RowFits x y)

-- the assumption in a place has a row outside 128 bits
abbrev pub IsWideFactAt : List Literal → ℕ → Type 0
IsWideFactAt fs i = (l : Literal) × (slice_get fs i ≡ Some l) × AreRowsTold l false

-- the literals that compare references hold by these numbers
abbrev pub DoReferencesHold : List Literal → List (ℕ × ℕ) → Type 0
DoReferencesHold fs refs = (m : Valued) → m.references ≡ reference_in refs → All (λ l. ComparesReferences l → Holds m l) fs

-- the literal speaks of a flag
abbrev pub IsFlag : Literal → Type 0
IsFlag (lit.Flag n held) = Unit {0}
IsFlag l = ⊥

-- the flags are as the literals say
abbrev pub DoFlagsHold : List Literal → List (ℕ × Bool) → Type 0
DoFlagsHold fs flags = (m : Valued) → m.flags ≡ flag_in flags → All (λ l. IsFlag l → Holds m l) fs

-- the valuation of a point, with these references and flags
abbrev pub valuation_of : Point → List (ℕ × ℕ) → List (ℕ × Bool) → Valuation
valuation_of p refs flags = record { q = p.q; nums = p.values; refs = refs; flags = flags }
