-- The names of a text in the order in which it first has them, its classes, and the number of `main`.
use Rattle.std.specs.Prelude.{ℕ, zero, suc, ◌+◌, Bool, true, false, ◌&&◌, not, List, [], ◌∷◌, ◌++◌, length, slice_get, Option, Some, None, if◌then◌else◌, codes, bytes_eq}
use Rattle.std.specs.List.{list_any, position_or_len}
use Rattle.raw_syntax.specs.declared.RawFunc.{RawFunc}
use Rattle.raw_syntax.specs.declared.RawClass.{RawClass}
use Rattle.raw_syntax.specs.declared.RawItem.{RawItem}
use Rattle.raw_syntax.specs.declared.RawItem.TheVariants as items
use Rattle.raw_syntax.specs.declared.Raw.{Raw}
use Rattle.py_syntax.specs.declared.Ty.{Ty}
use Rattle.py_syntax.specs.declared.Field.{Field}
use Rattle.py_syntax.specs.declared.ClassSort.{ClassSort}
use Rattle.py_syntax.specs.declared.ClassSort.TheVariants as sorts
use Rattle.py_syntax.specs.declared.Class.{Class}
use Rattle.class_table.specs.declared.classes.Classes.{Classes}
use Rattle.class_table.specs.declared.outline.Declared.{Declared}
use Rattle.class_table.specs.declared.outline.Table.{Table}
use Rattle.class_table.specs.Bases.{base_of, is_exception}
use Rattle.class_table.specs.Tables.{table_of, declared_by}

-- the names once this one is declared
abbrev pub with_name : List (List ℕ) → List ℕ → List (List ℕ)
with_name names n = if list_any (bytes_eq n) names then names else names ++ n ∷ []

abbrev pub with_declared : List (List ℕ) → List Declared → List (List ℕ)
with_declared names [] = names
with_declared names (d ∷ ds) = with_declared (with_name names d.name) ds

-- the names so far, and those of the classes from number n on and of the functions, each class before its members
abbrev pub names_behind : Table → ℕ → List (List ℕ) → List RawItem → List (List ℕ)
names_behind t n names [] = names
names_behind t n names (items.Class c ∷ xs) = names_behind t (suc n) (with_declared (with_name names c.name) (declared_by t n)) xs
names_behind t n names (items.Func f ∷ xs) = names_behind t n (with_name names f.name) xs

abbrev pub all_names : Table → List RawItem → List (List ℕ)
all_names t xs = names_behind t 1 (codes "Exception" ∷ []) xs

abbrev pub name_number : List (List ℕ) → List ℕ → ℕ
name_number names n = position_or_len (bytes_eq n) names

-- Functions marked `Predicate` or `Pure` are no methods; predicates and methods are numbered apart, in the order of the text.
abbrev pub has_mark : List ℕ → RawFunc → Bool
has_mark mark f = list_any (bytes_eq mark) f.marks

abbrev pub is_predicate : RawFunc → Bool
is_predicate f = has_mark (codes "Predicate") f

abbrev pub is_method : RawFunc → Bool
is_method f = not (is_predicate f) && not (has_mark (codes "Pure") f)

abbrev pub one_if : Bool → ℕ
one_if true = 1
one_if false = 0

-- so many, and those of these functions that pass the test
abbrev pub count_from : (RawFunc → Bool) → ℕ → List RawFunc → ℕ
count_from test n [] = n
count_from test n (f ∷ fs) = count_from test (n + one_if (test f)) fs

abbrev pub count_in : (RawFunc → Bool) → RawItem → ℕ
count_in test (items.Class c) = count_from test 0 c.members
count_in test (items.Func f) = one_if (test f)

-- so many numbers from one on
abbrev pub numbers_from : ℕ → ℕ → List ℕ
numbers_from start zero = []
numbers_from start (suc count) = start ∷ numbers_from (suc start) count

abbrev pub entry_with : ℕ → Option Ty → List Field
entry_with n None = []
entry_with n (Some ty) = record { name = n; ty = ty } ∷ []

-- a field, and nothing of a method
unfoldable pub field_entry : List (List ℕ) → Declared → List Field
field_entry names d = entry_with (name_number names d.name) d.field

-- the fields before, and those among what else is declared
abbrev pub class_fields : List (List ℕ) → List Field → List Declared → List Field
class_fields names before [] = before
class_fields names before (d ∷ ds) = class_fields names (before ++ field_entry names d) ds

-- what a class is for; the invariant of a lock class is the predicate of this number
abbrev pub sort_with : Bool → ℕ → Option (Option ℕ) → ClassSort
sort_with is_exc predicate (Some (Some k)) = sorts.LockOver k predicate
sort_with true predicate lock = sorts.Exc
sort_with false predicate lock = sorts.Plain

-- the class of number n, behind so many methods and predicates
abbrev pub class_at : Table → List (List ℕ) → ℕ → ℕ → ℕ → RawClass → Class
class_at t names n methods predicates c =
    record {
      name = name_number names c.name;
      place = c.place;
      base = base_of t.rows n;
      sort = sort_with (is_exception t.rows n) predicates (slice_get t.locks n);
      fields = class_fields names [] (declared_by t n);
      methods = numbers_from methods (count_from is_method 0 c.members);
    }

-- the classes before, and those that follow behind so many methods and predicates
abbrev pub classes_behind : Table → List (List ℕ) → ℕ → ℕ → List Class → List RawItem → List Class
classes_behind t names methods predicates before [] = before
classes_behind t names methods predicates before (items.Class c ∷ xs) =
    classes_behind t names (methods + count_from is_method 0 c.members) (predicates + count_from is_predicate 0 c.members)
    (before ++ class_at t names (length before) methods predicates c ∷ []) xs
classes_behind t names methods predicates before (items.Func f ∷ xs) =
    classes_behind t names (methods + one_if (is_method f)) (predicates + one_if (is_predicate f)) before xs

-- `Exception`, the class that every module begins with
abbrev pub exception_class : Class
exception_class = record { name = 0; place = record { line = 1; col = 1 }; base = None; sort = sorts.Exc; fields = []; methods = [] }

abbrev pub is_named_main : RawItem → Bool
is_named_main (items.Class c) = false
is_named_main (items.Func f) = bytes_eq f.name (codes "main")

-- the number of `main` behind so many methods
abbrev pub main_behind : ℕ → List RawItem → ℕ
main_behind methods [] = methods
main_behind methods (x ∷ xs) = if is_named_main x then methods else main_behind (methods + count_in is_method x) xs

abbrev pub classes_with : Table → List RawItem → Classes
classes_with t xs = let names = all_names t xs in record { names = names; list = classes_behind t names 0 0 (exception_class ∷ []) xs; main = main_behind 0 xs }

abbrev pub classes_of : Raw → Classes
classes_of raw = classes_with (table_of raw.items) raw.items
