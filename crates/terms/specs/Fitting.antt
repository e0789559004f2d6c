-- When a valuation fits literals.
use Rattle.std.specs.Prelude.{◌≡◌, ℕ, pos, ◌≤ℤ◌, List, [], ◌∷◌, ◌++◌, map, Contains, Option, Some, None, slice_get}
use Rattle.terms.specs.declared.term.Term.{Term, App}
use Rattle.terms.specs.declared.literal.Literal.{Literal}
use Rattle.terms.specs.declared.literal.Literal.TheVariants as lit
use Rattle.terms.specs.Within.{terms_within}
use Rattle.terms.specs.Meanings.{Valued, meaning_at, AreClear}

-- the two sides of a literal
abbrev pub sides_of : Literal → Option (Term × Term)
sides_of (lit.AtMost a b) = Some (a, b)
sides_of (lit.Same a b) = Some (a, b)
sides_of (lit.Apart a b) = Some (a, b)
sides_of (lit.Flag n held) = None

abbrev pub within_sides : Option (Term × Term) → List Term
within_sides (Some (a, b)) = terms_within a ++ terms_within b
within_sides None = []

-- the terms in literals, those within others too, in the order in which they stand
abbrev pub terms_in : List Literal → List Term
terms_in [] = []
terms_in (l ∷ ls) = within_sides (sides_of l) ++ terms_in ls

-- an operator's number, its operands, and the symbol of its result
pub record Application : Type 0 where
  pub operator : ℕ
  pub operands : List Term
  pub result : Term

-- the term is the application, its result being the last term
abbrev pub Applies : Term → Application → Type 0
Applies t f = t ≡ App f.operator (f.operands ++ f.result ∷ [])

-- the application stands in the literals
abbrev pub AppliedIn : List Literal → Application → Type 0
AppliedIn ls f = (t : Term) × Contains (terms_in ls) t × Applies t f

-- two terms that are compared: the sides of one literal, or the operands in one place of two
-- applications of one operator
pub data AreCompared (ls : List Literal) : Term → Term → Type 0 where
  sides : (l : Literal) (a b : Term) → Contains ls l → sides_of l ≡ Some (a, b) → AreCompared ls a b
  operands : (f g : Application) (k : ℕ) (a b : Term) → AppliedIn ls f → AppliedIn ls g → f.operator ≡ g.operator → slice_get f.operands k ≡ Some a → slice_get g.operands k ≡ Some b → AreCompared ls a b

-- The unit is at least 1, two numbers that are compared are equal or differ by at least the unit, and
-- applications of one operator with equal operands have equal results.
pub record Fits (m : Valued) (ls : List Literal) : Type 0 where
  pub unit : pos 1 ≤ℤ m.unit
  pub clear : (a b : Term) → AreCompared ls a b → AreClear m.unit (meaning_at m a) (meaning_at m b)
  pub congruent : (f g : Application) → AppliedIn ls f → AppliedIn ls g → f.operator ≡ g.operator → map (meaning_at m) f.operands ≡ map (meaning_at m) g.operands → meaning_at m f.result ≡ meaning_at m g.result
