-- What holds at a point, whatever the references and flags are.
use Rattle.std.specs.Prelude.{◌≡◌, ℕ, Bool, false, ◌&&◌, pos, ◌≤ℤ◌, IsTrue, List, All}
use Rattle.lin_rows.specs.declared.Point.{Point}
use Rattle.lin_rows.specs.Points.{valuation}
use Rattle.terms.specs.declared.Term.{Term}
use Rattle.terms.specs.declared.Literal.{Literal}
use Rattle.terms.specs.declared.Literal.TheVariants as lit
use Rattle.terms.specs.Sorts.{of_numbers}
use Rattle.terms.specs.Meanings.{Valued, Holds, AreClear, AreApart, meaning_at}

-- the valuation of a point, with these references and flags
abbrev pub valued_at : Point → (ℕ → ℕ) → (ℕ → Bool) → Valued
valued_at p references flags = record {
  unit = p.q;
  numbers = valuation p.values;
  references = references;
  flags = flags;
}

-- a literal holds at the point
abbrev pub HoldsAtPoint : Point → Literal → Type 0
HoldsAtPoint p l = (references : ℕ → ℕ) (flags : ℕ → Bool) → Holds (valued_at p references flags) l

-- an order or an equality of two numbers
abbrev pub of_order : Literal → Bool
of_order (lit.AtMost a b) = of_numbers a && of_numbers b
of_order (lit.Same a b) = of_numbers a && of_numbers b
of_order l = false

-- the unit is at least 1, and the orders and equalities of numbers hold
pub record IsMet (fs : List Literal) (p : Point) : Type 0 where
  pub unit : pos 1 ≤ℤ p.q
  pub hold : All (λ l. IsTrue (of_order l) → HoldsAtPoint p l) fs

-- two terms are equal there
abbrev pub AreEqualAt : Point → Term → Term → Type 0
AreEqualAt p a b =
    (references : ℕ → ℕ) (flags : ℕ → Bool) → meaning_at (valued_at p references flags) a ≡ meaning_at (valued_at p references flags) b

-- two numbers differ there by at least the unit
abbrev pub AreApartAt : Point → Term → Term → Type 0
AreApartAt p a b =
    (references : ℕ → ℕ) (flags : ℕ → Bool) → AreApart p.q (meaning_at (valued_at p references flags) a) (meaning_at (valued_at p references flags) b)

-- they are equal or differ by at least the unit
abbrev pub AreClearAt : Point → Term → Term → Type 0
AreClearAt p a b =
    (references : ℕ → ℕ) (flags : ℕ → Bool) → AreClear p.q (meaning_at (valued_at p references flags) a) (meaning_at (valued_at p references flags) b)
