-- What terms and literals mean at a valuation, and when a valuation fits them.
use Rattle.std.specs.Prelude.{◌≡◌, ℕ, Bool, ℤ, pos, ◌+ℤ◌, ◌*ℤ◌, ◌≤ℤ◌, ◌⊎◌, List, [], ◌∷◌}
use Rattle.terms.specs.declared.term.Term.{Term, Term-F, fold-Term}
use Rattle.terms.specs.declared.literal.Literal.{Literal}
use Rattle.terms.specs.declared.literal.Literal.TheVariants as lit

-- A valuation with its unit q. Numbers are kept in parts of 1/q.
pub record Valued : Type 0 where
  pub unit : ℤ
  pub numbers : ℕ → ℤ
  pub references : ℕ → ℕ
  pub flags : ℕ → Bool

abbrev pub last_number : List ℤ → ℤ
last_number [] = pos 0
last_number (z ∷ []) = z
last_number (z ∷ y ∷ more) = last_number (y ∷ more)

-- A literal c is c units. An application has the number of its last term.
abbrev pub number_step : Valued → Term-F ℤ → ℤ
number_step m (Term-F.Sym n) = m.numbers n
number_step m (Term-F.Lit z) = z *ℤ m.unit
number_step m (Term-F.Add a b) = a +ℤ b
number_step m (Term-F.Scale k a) = k *ℤ a
number_step m (Term-F.App operator all) = last_number all
number_step m _ = pos 0

-- the number that a term is
abbrev pub number_at : Valued → Term → ℤ
number_at m = fold-Term ℤ (number_step m)

pub data Meaning : Type 0 where
  Number : ℤ → Meaning
  Reference : ℕ → Meaning

-- The operations on meanings. What is made of a reference has no number, and counts as None, the
-- reference 0.
abbrev pub sum_of : Meaning → Meaning → Meaning
sum_of (Number x) (Number y) = Number (x +ℤ y)
sum_of x y = Reference 0

abbrev pub multiple_of : ℤ → Meaning → Meaning
multiple_of k (Number x) = Number (k *ℤ x)
multiple_of k (Reference n) = Reference 0

abbrev pub applied : List Meaning → Meaning
applied [] = Reference 0
applied (Number x ∷ []) = Number x
applied (Number x ∷ y ∷ more) = applied (y ∷ more)
applied (Reference n ∷ more) = Reference 0

abbrev pub meaning_step : Valued → Term-F Meaning → Meaning
meaning_step m (Term-F.Sym n) = Number (m.numbers n)
meaning_step m (Term-F.Lit z) = Number (z *ℤ m.unit)
meaning_step m (Term-F.Add a b) = sum_of a b
meaning_step m (Term-F.Scale k a) = multiple_of k a
meaning_step m (Term-F.App operator all) = applied all
meaning_step m (Term-F.RefSym n) = Reference (m.references n)
meaning_step m (Term-F.RefLit n) = Reference n
meaning_step m Term-F.Nil = Reference 0

-- what a term is: a number or a reference
abbrev pub meaning_at : Valued → Term → Meaning
meaning_at m = fold-Term Meaning (meaning_step m)

-- one number is at most another
abbrev pub IsAtMost : Meaning → Meaning → Type 0
IsAtMost (Number x) (Number y) = x ≤ℤ y
IsAtMost x y = ⊥

-- two numbers differ by at least the unit, or two references differ
abbrev pub AreApart : ℤ → Meaning → Meaning → Type 0
AreApart unit (Number x) (Number y) = ((x +ℤ unit) ≤ℤ y) ⊎ ((y +ℤ unit) ≤ℤ x)
AreApart unit x y = ¬ (x ≡ y)

-- a literal holds
abbrev pub Holds : Valued → Literal → Type 0
Holds m (lit.AtMost a b) = IsAtMost (meaning_at m a) (meaning_at m b)
Holds m (lit.Same a b) = meaning_at m a ≡ meaning_at m b
Holds m (lit.Apart a b) = AreApart m.unit (meaning_at m a) (meaning_at m b)
Holds m (lit.Flag n held) = m.flags n ≡ held

-- equal, or, where they are numbers, at least the unit apart
abbrev pub AreClear : ℤ → Meaning → Meaning → Type 0
AreClear unit x y = (x ≡ y) ⊎ AreApart unit x y
