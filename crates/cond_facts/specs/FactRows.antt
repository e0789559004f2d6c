-- The rows that the literals of numbers among assumptions have.
use Rattle.std.specs.Prelude.{◌≡◌, ℕ, ◌+◌, ◌-◌, nat_lt, if◌then◌else◌, get_or, length, Bool, true, false, ◌&&◌, ◌⊎◌, IsTrue, List, [], ◌∷◌, Option, Some, None, slice_get}
use Rattle.lin_rows.specs.declared.Row.{Row}
use Rattle.lin_rows.specs.declared.ComboStep.{ComboStep}
use Rattle.terms.specs.declared.Term.{Term}
use Rattle.terms.specs.declared.Literal.{Literal}
use Rattle.terms.specs.declared.Literal.TheVariants as lit
use Rattle.terms.specs.Sorts.{of_numbers}
use Rattle.proof_checker.specs.Rows.{RowFits, IsRow}

-- one of the rows of an order or an equality of numbers is outside 128 bits
abbrev pub HasWideRow : Literal → Type 0
HasWideRow (lit.AtMost a b) = IsTrue (of_numbers a && of_numbers b) × ¬ (RowFits a b)
HasWideRow (lit.Same a b) = IsTrue (of_numbers a && of_numbers b) × (¬ (RowFits a b) ⊎ ¬ (RowFits b a))
HasWideRow l = ⊥

-- so is one of those of the assumption in a place
abbrev pub IsWideAt : List Literal → ℕ → Type 0
IsWideAt fs i = (l : Literal) × (slice_get fs i ≡ Some l) × HasWideRow l

-- the row of `a <= b` where the first is true, else none
abbrev pub IsThereIf : Bool → Term → Term → Option Row → Type 0
IsThereIf true a b (Some r) = IsRow a b r
IsThereIf true a b None = ⊥
IsThereIf false a b r = r ≡ None

-- the two rows that have an assumption's numbers, none of them outside 128 bits
abbrev pub AreThere : Literal → Option Row → Option Row → Type 0
AreThere (lit.AtMost a b) r s = IsThereIf (of_numbers a && of_numbers b) a b r × (s ≡ None)
AreThere (lit.Same a b) r s = IsThereIf (of_numbers a && of_numbers b) a b r × IsThereIf (of_numbers a && of_numbers b) b a s
AreThere l r s = (r ≡ None) × (s ≡ None)

-- those of all assumptions, in their order
abbrev pub AreAllThere : List Literal → List (Option Row) → Type 0
AreAllThere [] [] = Unit {0}
AreAllThere (l ∷ ls) (r ∷ s ∷ rows) = AreThere l r s × AreAllThere ls rows
AreAllThere ls rows = ⊥

-- the rows that are there
abbrev pub present : List (Option Row) → List Row
present [] = []
present (Some r ∷ rows) = r ∷ present rows
present (None ∷ rows) = present rows

-- their numbers, where the first of all is `n`
abbrev pub places : ℕ → List (Option Row) → List ℕ
places n [] = []
places n (Some r ∷ rows) = n ∷ places (n + 1) rows
places n (None ∷ rows) = places (n + 1) rows

-- all rows of the assumptions are there: `rows` with these numbers
pub record AreRead (fs : List Literal) (rows : List Row) (numbers : List ℕ) : Type 0 where
  pub all : List (Option Row)
  pub are : AreAllThere fs all
  pub rows_are : rows ≡ present all
  pub numbers_are : numbers ≡ places 0 all

-- the number of a row of those that are there, or of a step after them, where the steps come from `first` on
abbrev pub new_number : List ℕ → ℕ → ℕ → ℕ
new_number numbers first n = if nat_lt n (length numbers) then get_or numbers n 0 else n - length numbers + first

abbrev pub renumbered : List ℕ → ℕ → ComboStep → ComboStep
renumbered numbers first s = record {
  left = new_number numbers first s.left;
  right = new_number numbers first s.right;
  by_left = s.by_left;
  by_right = s.by_right;
  row = s.row;
}
