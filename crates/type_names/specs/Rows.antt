-- Operators by their rows in the table of operators: what their operands are to be and what they give.
use Rattle.std.specs.Prelude.{ℕ, Bool, false, ◌&&◌, ◌||◌, nat_eq, Option, Some, None, is_some, option_and_then, find, if◌then◌else◌}
use Rattle.std.specs.Option.{option_map_or}
use Rattle.py_syntax.specs.declared.Ty.{Ty}
use Rattle.py_syntax.specs.declared.Ty.TheVariants as types
use Rattle.case_tables.specs.declared.CaseRow.{CaseRow}
use Rattle.case_tables.specs.Operators.{int, bool, reference, operator_rows}
use Rattle.case_tables.specs.Keys.{has_key}
use Rattle.type_names.specs.Fitting.{is_int, is_bool, is_void, is_thread_type}

-- the row of the operator with this key
abbrev pub row_with : ℕ → Option CaseRow
row_with key = find (has_key key) operator_rows

-- The type of a sort; references are of many types.
abbrev pub sort_type : ℕ → Option Ty
sort_type sort = if nat_eq sort int then Some types.Int else if nat_eq sort bool then Some types.Bool else None

abbrev pub left_type : ℕ → Option Ty
left_type key = option_and_then (λ (row : CaseRow). sort_type row.left) (row_with key)

-- a prefix operator's only operand
abbrev pub right_type : ℕ → Option Ty
right_type key = option_and_then (λ (row : CaseRow). sort_type row.right) (row_with key)

abbrev pub out_type : ℕ → Option Ty
out_type key = option_and_then (λ (row : CaseRow). sort_type row.out) (row_with key)

abbrev pub class_in : Ty → Option ℕ
class_in (types.Obj c) = Some c
class_in (types.Opt c) = Some c
class_in t = None

abbrev pub is_reference : Ty → Bool
is_reference t = is_void t || (is_thread_type t || is_some (class_in t))

-- whether values of the type are of the sort
abbrev pub has_sort : ℕ → Ty → Bool
has_sort sort t = (nat_eq sort int && is_int t) || ((nat_eq sort bool && is_bool t) || (nat_eq sort reference && is_reference t))

-- whether operands of these types are those of the operator's row
abbrev pub fits_row : ℕ → Ty → Ty → Bool
fits_row key a b = option_map_or (λ (row : CaseRow). has_sort row.left a && has_sort row.right b) (row_with key) false
