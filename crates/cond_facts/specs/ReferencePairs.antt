-- Pairs of references, and what an equality put into them makes of them.
use Rattle.std.specs.Prelude.{◌≡◌, ◌≢◌, ℕ, ◌+◌, ◌==◌, Bool, true, false, not, ◌||◌, if◌then◌else◌, List, [], ◌∷◌, length, All, Contains, Option, Some, None, slice_get}
use Rattle.terms.specs.declared.Term.{Term, Term-F, RefSym, RefLit, out-Term}
use Rattle.terms.specs.declared.Literal.{Literal}
use Rattle.terms.specs.declared.Literal.TheVariants as lit
use Rattle.proof_checker.specs.declared.Condition.{Condition}
use Rattle.proof_checker.specs.declared.Derivation.{Derivation, Replace}
use Rattle.proof_checker.specs.Derivations.{AreReferences, DerivesFrom}
use Rattle.cond_facts.specs.declared.reference_pairs.Reference.{Reference}
use Rattle.cond_facts.specs.declared.reference_pairs.Reference.TheVariants.{Symbol, Number}
use Rattle.cond_facts.specs.declared.reference_pairs.Pair.{Pair}

abbrev pub same_reference : Reference → Reference → Bool
same_reference (Symbol m) (Symbol n) = m == n
same_reference (Number m) (Number n) = m == n
same_reference x y = false

-- the reference is a side of the pair
abbrev pub has : Pair → Reference → Bool
has p x = same_reference p.left x || same_reference p.right x

abbrev pub victim_of : Reference → Reference → Reference
victim_of (Symbol m) y = Symbol m
victim_of (Number m) y = y

-- the side of an equality that is replaced: the left one where it is a symbol
abbrev pub victim : Pair → Reference
victim e = victim_of e.left e.right

abbrev pub numbers_differ : Reference → Reference → Bool
numbers_differ (Number m) (Number n) = not (m == n)
numbers_differ x y = false

abbrev pub other_numbers : Pair → Bool
other_numbers e = numbers_differ e.left e.right

abbrev pub put_for : Reference → Reference → Reference → Reference
put_for from to x = if same_reference x from then to else x

abbrev pub put_in_pair : Reference → Reference → ℕ → Pair → Pair
put_in_pair from to place p = record { place = place; left = put_for from to p.left; right = put_for from to p.right }

-- the pair that is assumed at a place once an equality was put into a pair
abbrev pub replaced : Pair → ℕ → Pair → Pair
replaced e place p = if has p e.left then put_in_pair e.left e.right place p else put_in_pair e.right e.left place p

-- the pairs with an equality put into those that have its victim, from an assumption's number on
abbrev pub changes : Pair → ℕ → List Pair → List Pair
changes e next [] = []
changes e next (p ∷ ps) =
    if has p (victim e) then replaced e next p ∷ changes e (next + 1) ps else p ∷ changes e next ps

-- the number of the next assumption then
abbrev pub after : Pair → ℕ → List Pair → ℕ
after e next [] = next
after e next (p ∷ ps) = if has p (victim e) then after e (next + 1) ps else after e next ps

-- the replacements that make the changes, and a derivation behind them
abbrev pub wrapped : Pair → List Pair → Derivation → Derivation
wrapped e [] d = d
wrapped e (p ∷ ps) d = if has p (victim e) then Replace e.place p.place (wrapped e ps d) else wrapped e ps d

abbrev pub term_of : Reference → Term
term_of (Symbol n) = RefSym n
term_of (Number n) = RefLit n

-- the literal that compares a pair
abbrev pub literal_of : Bool → Pair → Literal
literal_of true p = lit.Same (term_of p.left) (term_of p.right)
literal_of false p = lit.Apart (term_of p.left) (term_of p.right)

-- the comparison is the assumption of its number
abbrev pub IsAssumed : List Literal → Bool → Pair → Type 0
IsAssumed fs same p = slice_get fs p.place ≡ Some (literal_of same p)

-- the reference's number, by those of the symbols
abbrev pub value_of : (ℕ → ℕ) → Reference → ℕ
value_of f (Symbol n) = f n
value_of f (Number n) = n

abbrev pub AreEqualAt : (ℕ → ℕ) → Pair → Type 0
AreEqualAt f p = value_of f p.left ≡ value_of f p.right

abbrev pub DifferAt : (ℕ → ℕ) → Pair → Type 0
DifferAt f p = value_of f p.left ≢ value_of f p.right

-- a derivation derives any condition where these comparisons are assumed
abbrev pub AreRefuted : List Pair → List Pair → ℕ → Derivation → Type 0
AreRefuted equal different next d =
    (c : Condition) (fs : List Literal) → length fs ≡ next → All (IsAssumed fs true) equal → All (IsAssumed fs false) different → DerivesFrom c fs d

abbrev pub reference_in : Term-F Term → Option Reference
reference_in (Term-F.RefSym n) = Some (Symbol n)
reference_in (Term-F.RefLit n) = Some (Number n)
reference_in Term-F.Nil = Some (Number 0)
reference_in x = None

-- the reference that a term is
abbrev pub reference_of : Term → Option Reference
reference_of t = reference_in (out-Term t)

abbrev pub paired : ℕ → Option Reference → Option Reference → Option Pair
paired place (Some x) (Some y) = Some (record { place = place; left = x; right = y })
paired place x y = None

-- the references that a literal says to be equal
abbrev pub equal_pair : ℕ → Literal → Option Pair
equal_pair place (lit.Same a b) = paired place (reference_of a) (reference_of b)
equal_pair place l = None

-- the references that a literal says to differ
abbrev pub different_pair : ℕ → Literal → Option Pair
different_pair place (lit.Apart a b) = paired place (reference_of a) (reference_of b)
different_pair place l = None

abbrev pub with_pair : Option Pair → List Pair → List Pair
with_pair (Some p) ps = p ∷ ps
with_pair None ps = ps

-- those of literals whose numbers begin with this one
abbrev pub equal_pairs : ℕ → List Literal → List Pair
equal_pairs place [] = []
equal_pairs place (l ∷ ls) = with_pair (equal_pair place l) (equal_pairs (place + 1) ls)

abbrev pub different_pairs : ℕ → List Literal → List Pair
different_pairs place [] = []
different_pairs place (l ∷ ls) = with_pair (different_pair place l) (different_pairs (place + 1) ls)

-- the literal compares references
abbrev pub ComparesReferences : Literal → Type 0
ComparesReferences (lit.Same a b) = AreReferences a b
ComparesReferences (lit.Apart a b) = AreReferences a b
ComparesReferences l = ⊥

-- a pair whose sides are one reference stands among pairs, with this number
pub record IsItself (ps : List Pair) (n : ℕ) : Type 0 where
  pub pair : Pair
  pub there : Contains ps pair
  pub place : pair.place ≡ n
  pub same : pair.left ≡ pair.right
