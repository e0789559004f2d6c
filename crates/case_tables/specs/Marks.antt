-- The marks in the order of their numbers, each with the operator that it writes.
use Rattle.std.specs.Prelude.{ℕ, suc, List, [], ◌∷◌, codes}
use Rattle.case_tables.specs.declared.row.CaseRow.{CaseRow}
use Rattle.case_tables.specs.Operators.{row, nothing}

-- The text of each mark, and the key of its infix operator: for == and != the one on ints, for a mark
-- that assigns the one before its =, and 0 where it writes no operator of the table.
abbrev pub marks : List (List ℕ × ℕ)
marks =
    (codes "(", 0) ∷
    (codes ")", 0) ∷
    (codes "[", 0) ∷
    (codes "]", 0) ∷
    (codes ":", 0) ∷
    (codes ",", 0) ∷
    (codes ".", 0) ∷
    (codes "=", 0) ∷
    (codes "->", 0) ∷
    (codes "@", 0) ∷
    (codes "+", 1) ∷
    (codes "-", 2) ∷
    (codes "*", 3) ∷
    (codes "/", 0) ∷
    (codes "//", 4) ∷
    (codes "%", 5) ∷
    (codes "<", 7) ∷
    (codes "<=", 8) ∷
    (codes ">", 9) ∷
    (codes ">=", 10) ∷
    (codes "==", 11) ∷
    (codes "!=", 12) ∷
    (codes "+=", 1) ∷
    (codes "-=", 2) ∷
    (codes "*=", 3) ∷
    (codes "//=", 4) ∷
    (codes "%=", 5) ∷
    []

-- the marks are numbered from 1, and have no operands
abbrev pub numbered : ℕ → List (List ℕ × ℕ) → List CaseRow
numbered number [] = []
numbered number (mark ∷ rest) = row number nothing nothing mark.1 ∷ numbered (suc number) rest

abbrev pub mark_rows : List CaseRow
mark_rows = numbered 1 marks
