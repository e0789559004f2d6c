-- Conditions, and what it is for one to hold.
use Rattle.std.specs.Prelude.{not, pos, List, [], ◌∷◌, ◌++◌, All, IsTrue}
use Rattle.terms.specs.declared.Term.{Term, Term-F, Add, Lit, RefLit, out-Term}
use Rattle.terms.specs.declared.Literal.{Literal}
use Rattle.terms.specs.declared.Literal.TheVariants as lit
use Rattle.terms.specs.Sorts.{sorted}
use Rattle.terms.specs.Meanings.{Valued, Holds}
use Rattle.terms.specs.Fitting.{Fits}
use Rattle.proof_checker.specs.declared.condition.Condition.{Condition}

-- the literals of a condition, the goal last
abbrev pub literals_of : Condition → List Literal
literals_of c = c.hyps ++ c.goal ∷ []

-- each literal is sorted
abbrev pub IsSorted : Condition → Type 0
IsSorted c = All (λ l. IsTrue (sorted l)) (literals_of c)

-- the goal holds where the hypotheses do, at a valuation that fits
abbrev pub HoldsAt : Valued → Condition → Type 0
HoldsAt m c = Fits m (literals_of c) → All (Holds m) c.hyps → Holds m c.goal

-- a term and one unit
abbrev pub plus_one : Term → Term
plus_one t = Add t (Lit (pos 1))

-- The opposite of a literal. Of `a <= b` it is `b + 1 <= a`.
abbrev pub opposite : Literal → Literal
opposite (lit.AtMost a b) = lit.AtMost (plus_one b) a
opposite (lit.Same a b) = lit.Apart a b
opposite (lit.Apart a b) = lit.Same a b
opposite (lit.Flag n held) = lit.Flag n (not held)

abbrev pub plain_form : Term → Term-F Term → Term
plain_form t Term-F.Nil = RefLit 0
plain_form t x = t

-- None and the reference 0 are one term. In a sorted literal they stand only as whole sides.
abbrev pub plain : Term → Term
plain t = plain_form t (out-Term t)

abbrev pub plain_literal : Literal → Literal
plain_literal (lit.AtMost a b) = lit.AtMost (plain a) (plain b)
plain_literal (lit.Same a b) = lit.Same (plain a) (plain b)
plain_literal (lit.Apart a b) = lit.Apart (plain a) (plain b)
plain_literal (lit.Flag n held) = lit.Flag n held
