-- Rows by their keys.
use Rattle.std.specs.Prelude.{ℕ, ◌<◌, ◌≤◌, Bool, nat_eq, List, count_by}
use Rattle.case_tables.specs.declared.row.CaseRow.{CaseRow}

-- the row is found by the key
abbrev pub has_key : ℕ → CaseRow → Bool
has_key key row = nat_eq row.key key

-- some key stands in two rows
abbrev pub HasKeyTwice : List CaseRow → Type 0
HasKeyTwice rows = (key : ℕ) × (1 < count_by (has_key key) rows)

-- each key stands in one row at most
abbrev pub HaveDistinctKeys : List CaseRow → Type 0
HaveDistinctKeys rows = (key : ℕ) → count_by (has_key key) rows ≤ 1
