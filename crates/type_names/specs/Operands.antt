-- Operators by their rows in the table of operators: `+ - * // %` and prefix `-` take and give int, `< <= > >=` compare ints, `==` and
-- `!=` two ints or two bools, `is` and `is not` two references or None, one class above the other, and `not` takes and gives bool,
-- as `and` and `or` do, which have no row. An operand that doesn't fit breaks rule 3 at its own place, but for a single `==` or `!=` at the operator; two that
-- `is` may not compare break rule 16 at the operator. In a chain of more than one comparison `==` and `!=` want ints, and `is` breaks rule 26.
use Rattle.std.specs.Prelude.{ℕ, Bool, true, false, ◌||◌, ◌&&◌, not, List, [], ◌∷◌, ◌++◌, Option, Some, None}
use Rattle.py_base.specs.declared.Place.{Place}
use Rattle.raw_syntax.specs.declared.Arithmetic.{Arithmetic}
use Rattle.raw_syntax.specs.declared.Arithmetic.TheVariants as signs
use Rattle.raw_syntax.specs.declared.Comparison.{Comparison}
use Rattle.raw_syntax.specs.declared.Comparison.TheVariants as marks
use Rattle.py_syntax.specs.declared.Ty.{Ty}
use Rattle.py_syntax.specs.declared.Ty.TheVariants as types
use Rattle.py_syntax.specs.declared.Class.{Class}
use Rattle.class_table.specs.Lookup.{is_subclass}
use Rattle.type_base.specs.declared.Fault.{Fault}
use Rattle.type_names.specs.declared.meaning.Worth.{Worth}
use Rattle.type_names.specs.declared.links.Compared.{Compared}
pub use Rattle.type_names.specs.Rows.{class_in}
use Rattle.type_names.specs.Rows.{left_type, right_type, out_type, fits_row}
use Rattle.type_names.specs.Fitting.{mistyped, mistyped_if, is_void, is_thread_type, want_faults, wanted_faults}

-- `and` and `or`
abbrev pub bool_faults : List Class → Worth → List Fault
bool_faults cs w = want_faults cs 3 types.Bool w

abbrev pub both_bool_faults : List Class → Worth → Worth → List Fault
both_bool_faults cs a b = bool_faults cs a ++ bool_faults cs b

-- the operand of a prefix operator, by its row
abbrev pub prefix_faults : List Class → ℕ → Worth → List Fault
prefix_faults cs key w = wanted_faults cs 3 (right_type key) w

-- two operands that are to be those of a row
abbrev pub row_faults : List Class → ℕ → Worth → Worth → List Fault
row_faults cs key a b = wanted_faults cs 3 (left_type key) a ++ wanted_faults cs 3 (right_type key) b

-- `/` stands only in the fraction of `Acc` (rule 18, at the operator), and has no result elsewhere
abbrev pub arithmetic_faults : List Class → Arithmetic → Place → Worth → Worth → List Fault
arithmetic_faults cs signs.Plus p a b = row_faults cs 1 a b
arithmetic_faults cs signs.Minus p a b = row_faults cs 2 a b
arithmetic_faults cs signs.Times p a b = row_faults cs 3 a b
arithmetic_faults cs signs.Divide p a b = mistyped p 18
arithmetic_faults cs signs.FloorDivide p a b = row_faults cs 4 a b
arithmetic_faults cs signs.Modulo p a b = row_faults cs 5 a b

abbrev pub arithmetic_type : Arithmetic → Option Ty
arithmetic_type signs.Plus = out_type 1
arithmetic_type signs.Minus = out_type 2
arithmetic_type signs.Times = out_type 3
arithmetic_type signs.Divide = None
arithmetic_type signs.FloorDivide = out_type 4
arithmetic_type signs.Modulo = out_type 5

abbrev pub comparison_type : Comparison → Option Ty
comparison_type marks.Less = out_type 7
comparison_type marks.LessEqual = out_type 8
comparison_type marks.Greater = out_type 9
comparison_type marks.GreaterEqual = out_type 10
comparison_type marks.Equal = out_type 11
comparison_type marks.NotEqual = out_type 12
comparison_type marks.Is = out_type 15
comparison_type marks.IsNot = out_type 16

-- what a single `==` or `!=` may compare, by its row on ints and its row on bools
abbrev pub may_equal : ℕ → ℕ → Ty → Ty → Bool
may_equal ints bools a b = fits_row ints a b || fits_row bools a b

-- where one of them has no type, the other is to be of such a sort
abbrev pub may_be_equal : ℕ → ℕ → Option Ty → Option Ty → Bool
may_be_equal ints bools (Some a) (Some b) = may_equal ints bools a b
may_be_equal ints bools (Some a) None = may_equal ints bools a a
may_be_equal ints bools None (Some b) = may_equal ints bools b b
may_be_equal ints bools None None = true

-- else the fault stands at the operator
abbrev pub equal_faults : ℕ → ℕ → Place → Worth → Worth → List Fault
equal_faults ints bools p a b = mistyped_if (not (may_be_equal ints bools a.ty b.ty)) p 3

-- one class is the other or above it
abbrev pub are_in_line : List Class → Option ℕ → Option ℕ → Bool
are_in_line cs (Some c) (Some d) = is_subclass cs c d || is_subclass cs d c
are_in_line cs a b = false

-- what `is` and `is not` may compare: two references by the row, of which one is None, both are threads, or whose classes are in line
abbrev pub are_alike : List Class → Ty → Ty → Bool
are_alike cs a b = is_void a || (is_void b || ((is_thread_type a && is_thread_type b) || are_in_line cs (class_in a) (class_in b)))

abbrev pub are_comparable : List Class → ℕ → Ty → Ty → Bool
are_comparable cs key a b = fits_row key a b && are_alike cs a b

abbrev pub are_known_comparable : List Class → ℕ → Option Ty → Option Ty → Bool
are_known_comparable cs key (Some a) (Some b) = are_comparable cs key a b
are_known_comparable cs key a b = true

abbrev pub is_faults : List Class → ℕ → Place → Worth → Worth → List Fault
is_faults cs key p a b = mistyped_if (not (are_known_comparable cs key a.ty b.ty)) p 16

-- a comparison that stands alone
abbrev pub comparison_faults : List Class → Worth → Compared → List Fault
comparison_faults cs a link = elim link.operator as (λ _. List Fault) [
  | marks.Less ↦ row_faults cs 7 a link.operand
  | marks.LessEqual ↦ row_faults cs 8 a link.operand
  | marks.Greater ↦ row_faults cs 9 a link.operand
  | marks.GreaterEqual ↦ row_faults cs 10 a link.operand
  | marks.Equal ↦ equal_faults 11 13 link.place a link.operand
  | marks.NotEqual ↦ equal_faults 12 14 link.place a link.operand
  | marks.Is ↦ is_faults cs 15 link.place a link.operand
  | marks.IsNot ↦ is_faults cs 16 link.place a link.operand
]

-- one of several comparisons
abbrev pub joined_is_faults : List Class → ℕ → Place → Worth → Worth → List Fault
joined_is_faults cs key p a b = is_faults cs key p a b ++ mistyped p 26

abbrev pub link_faults : List Class → Worth → Compared → List Fault
link_faults cs a link = elim link.operator as (λ _. List Fault) [
  | marks.Less ↦ row_faults cs 7 a link.operand
  | marks.LessEqual ↦ row_faults cs 8 a link.operand
  | marks.Greater ↦ row_faults cs 9 a link.operand
  | marks.GreaterEqual ↦ row_faults cs 10 a link.operand
  | marks.Equal ↦ row_faults cs 11 a link.operand
  | marks.NotEqual ↦ row_faults cs 12 a link.operand
  | marks.Is ↦ joined_is_faults cs 15 link.place a link.operand
  | marks.IsNot ↦ joined_is_faults cs 16 link.place a link.operand
]

-- each of these comparisons with the operand before it
abbrev pub links_faults : List Class → Worth → List Compared → List Fault
links_faults cs a [] = []
links_faults cs a (link ∷ links) = link_faults cs a link ++ links_faults cs link.operand links

abbrev pub chain_faults : List Class → Worth → List Compared → List Fault
chain_faults cs a (link ∷ []) = comparison_faults cs a link
chain_faults cs a links = links_faults cs a links
