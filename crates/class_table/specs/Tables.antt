-- The tables of a text's classes, by their numbers.
use Rattle.std.specs.Prelude.{ℕ, Bool, false, List, [], slice_get, is_some, unwrap_or}
use Rattle.std.specs.Option.{option_map_or}
use Rattle.raw_syntax.specs.declared.RawItem.{RawItem}
use Rattle.class_table.specs.declared.outline.Declared.{Declared}
use Rattle.class_table.specs.declared.outline.Table.{Table}
use Rattle.class_table.specs.Bases.{class_names, all_rows, locks}
use Rattle.class_table.specs.Declaring.{all_declared}

abbrev pub table_over : List (List ℕ) → List RawItem → Table
table_over names xs = let rows = all_rows names xs in record { names = names; rows = rows; locks = locks names rows xs; declared = all_declared names rows xs }

abbrev pub table_of : List RawItem → Table
table_of xs = table_over (class_names xs) xs

abbrev pub is_lock : Table → ℕ → Bool
is_lock t n = option_map_or is_some (slice_get t.locks n) false

abbrev pub declared_by : Table → ℕ → List Declared
declared_by t n = unwrap_or (slice_get t.declared n) []
