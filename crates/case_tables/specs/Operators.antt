-- The operators of the language, the sorts of their operands and of their results.
use Rattle.std.specs.Prelude.{ℕ, List, [], ◌∷◌, ◌++◌, map}
use Rattle.case_tables.specs.declared.row.CaseRow.{CaseRow}

-- the sorts of operands
abbrev pub nothing : ℕ
nothing = 0

abbrev pub int : ℕ
int = 1

abbrev pub bool : ℕ
bool = 2

abbrev pub reference : ℕ
reference = 3

-- a row by its columns
abbrev pub row : ℕ → ℕ → ℕ → ℕ → CaseRow
row key left right out = record { key = key; left = left; right = right; out = out }

-- the operators with these keys take two operands of one sort
abbrev pub binary : List ℕ → ℕ → ℕ → List CaseRow
binary keys operand out = map (λ key. row key operand operand out) keys

-- the operator stands before its one operand
abbrev pub prefix : ℕ → ℕ → ℕ → List CaseRow
prefix key operand out = row key nothing operand out ∷ []

-- + - * // %, then prefix -, then < <= > >=, then == != on ints, the same on bools, then is and
-- is not, then not
abbrev pub operator_rows : List CaseRow
operator_rows =
    binary (1 ∷ 2 ∷ 3 ∷ 4 ∷ 5 ∷ []) int int
    ++ prefix 6 int int
    ++ binary (7 ∷ 8 ∷ 9 ∷ 10 ∷ []) int bool
    ++ binary (11 ∷ 12 ∷ []) int bool
    ++ binary (13 ∷ 14 ∷ []) bool bool
    ++ binary (15 ∷ 16 ∷ []) reference bool
    ++ prefix 17 bool bool
