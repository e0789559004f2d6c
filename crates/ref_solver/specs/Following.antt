-- The equalities that follow from literals by equality and congruence.
use Rattle.std.specs.Prelude.{◌≡◌, ℕ, ℤ, List, length, Contains, Some, slice_get}
use Rattle.terms.specs.declared.Term.{Term, Add, Scale, RefLit, Nil}
use Rattle.terms.specs.declared.Literal.{Literal}
use Rattle.terms.specs.declared.Literal.TheVariants as lit
use Rattle.terms.specs.Fitting.{Application, Applies, terms_in}

-- the term stands in the literals, or within a term that does
abbrev pub Stands : List Literal → Term → Type 0
Stands ls t = Contains (terms_in ls) t

-- The least relation between terms of the literals that has their equalities, is an equivalence, and
-- keeps to congruence: sums of equal terms are equal, and so are equal multiples, and applications of
-- one operator whose operands are equal, place by place. An application is equal to its result, the
-- last term. None and the reference 0 are one reference, and so they are equal where both stand.
pub data Follows (ls : List Literal) : Term → Term → Type 0 where
  assumed : (a b : Term) → Contains ls (lit.Same a b) → Follows ls a b
  none : Stands ls Nil → Stands ls (RefLit 0) → Follows ls Nil (RefLit 0)
  result : (t : Term) (f : Application) → Stands ls t → Applies t f → Follows ls t f.result
  applied : (t u : Term) (f g : Application) → Stands ls t → Stands ls u → Applies t f → Applies u g → f.operator ≡ g.operator → length f.operands ≡ length g.operands → ((k : ℕ) (a b : Term) → slice_get f.operands k ≡ Some a → slice_get g.operands k ≡ Some b → Follows ls a b) → Follows ls t u
  sum : (a b c d : Term) → Stands ls (Add a b) → Stands ls (Add c d) → Follows ls a c → Follows ls b d → Follows ls (Add a b) (Add c d)
  multiple : (k : ℤ) (a b : Term) → Stands ls (Scale k a) → Stands ls (Scale k b) → Follows ls a b → Follows ls (Scale k a) (Scale k b)
  itself : (t : Term) → Stands ls t → Follows ls t t
  turned : (s t : Term) → Follows ls s t → Follows ls t s
  through : (s t u : Term) → Follows ls s t → Follows ls t u → Follows ls s u
