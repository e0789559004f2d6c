-- The classes of a text by their numbers: `Exception` is class 0, and the classes of the text follow in their order. What
-- each has from above: its base, whether it is a class of exceptions, and whether it or a class above it has an `__init__`.
use Rattle.std.specs.Prelude.{ℕ, zero, suc, Bool, true, false, ◌||◌, nat_lt, List, [], ◌∷◌, ◌++◌, length, flat_map, slice_get, position, Option, Some, None, is_none, option_and_then, if◌then◌else◌, codes, bytes_eq}
use Rattle.std.specs.List.{list_any}
use Rattle.std.specs.Option.{option_map_or}
use Rattle.raw_syntax.specs.declared.RawTy.{RawTy}
use Rattle.raw_syntax.specs.declared.RawFunc.{RawFunc}
use Rattle.raw_syntax.specs.declared.RawClass.{RawClass}
use Rattle.raw_syntax.specs.declared.RawItem.{RawItem}
use Rattle.raw_syntax.specs.declared.RawItem.TheVariants as items
use Rattle.class_table.specs.Names.{is_built_in, init_name}
use Rattle.class_table.specs.declared.outline.Heritage.{Heritage}

abbrev pub class_name : RawItem → List (List ℕ)
class_name (items.Class c) = c.name ∷ []
class_name (items.Func f) = []

-- the names of the classes, by their numbers
abbrev pub class_names : List RawItem → List (List ℕ)
class_names xs = codes "Exception" ∷ flat_map class_name xs

-- The class that a name means. A built-in name means no class of the text.
abbrev pub class_named : List (List ℕ) → List ℕ → Option ℕ
class_named names name = if bytes_eq name (codes "Exception") then Some 0 else if is_built_in name then None else position (bytes_eq name) names

-- the class that a base names: a class alone, with nothing in brackets
abbrev pub named_base : List (List ℕ) → RawTy → Option ℕ
named_base names t = if is_none t.inner then class_named names t.head else None

-- a class that is among the first so many
abbrev pub earlier : ℕ → Option ℕ → Option ℕ
earlier count None = None
earlier count (Some k) = if nat_lt k count then Some k else None

-- the base of a class behind so many others, which stands before it
abbrev pub base_in : List (List ℕ) → ℕ → Option RawTy → Option ℕ
base_in names count None = None
base_in names count (Some t) = earlier count (named_base names t)

abbrev pub base_of : List Heritage → ℕ → Option ℕ
base_of rows n = option_and_then (λ (row : Heritage). row.base) (slice_get rows n)

abbrev pub is_exception : List Heritage → ℕ → Bool
is_exception rows n = option_map_or (λ (row : Heritage). row.is_exception) (slice_get rows n) false

-- whether the class or one above it has an `__init__`
abbrev pub has_init : List Heritage → ℕ → Bool
has_init rows n = option_map_or (λ (row : Heritage). row.has_init) (slice_get rows n) false

-- whether a class above has an `__init__`, so that the class's own must call it
abbrev pub needs_super : List Heritage → ℕ → Bool
needs_super rows n = option_map_or (has_init rows) (base_of rows n) false

abbrev pub is_init : RawFunc → Bool
is_init m = bytes_eq m.name init_name

abbrev pub declares_init : RawClass → Bool
declares_init c = list_any is_init c.members

-- A class derives from `Exception` or from a class of exceptions, or it is none.
abbrev pub row_over : List Heritage → Bool → Option ℕ → Heritage
row_over rows own base = record { base = base; is_exception = option_map_or (is_exception rows) base false; has_init = own || option_map_or (has_init rows) base false }

abbrev pub row_of : List (List ℕ) → List Heritage → RawClass → Heritage
row_of names rows c = row_over rows (declares_init c) (base_in names (length rows) c.base)

-- the rows of the classes before, and of those that follow
abbrev pub rows_behind : List (List ℕ) → List Heritage → List RawItem → List Heritage
rows_behind names rows [] = rows
rows_behind names rows (items.Class c ∷ xs) = rows_behind names (rows ++ row_of names rows c ∷ []) xs
rows_behind names rows (items.Func f ∷ xs) = rows_behind names rows xs

abbrev pub exception_row : Heritage
exception_row = record { base = None; is_exception = true; has_init = false }

abbrev pub all_rows : List (List ℕ) → List RawItem → List Heritage
all_rows names xs = rows_behind names (exception_row ∷ []) xs

-- a class and so many of its bases, the nearest first
abbrev pub bases_from : List Heritage → ℕ → Option ℕ → List ℕ
bases_from rows zero c = []
bases_from rows (suc n) None = []
bases_from rows (suc n) (Some c) = c ∷ bases_from rows n (base_of rows c)

-- the classes above a class; a base stands before it, so no chain is longer than the list of classes
abbrev pub classes_above : List Heritage → ℕ → List ℕ
classes_above rows n = bases_from rows (length rows) (base_of rows n)

-- a class of objects: exceptions have no type
abbrev pub object_class : List (List ℕ) → List Heritage → List ℕ → Option ℕ
object_class names rows name = option_and_then (λ (k : ℕ). if is_exception rows k then None else Some k) (class_named names name)

-- the class that a lock class `Lock[C]` locks; C may stand later
abbrev pub locked_class : List (List ℕ) → List Heritage → RawTy → Option ℕ
locked_class names rows t = if bytes_eq t.head (codes "Lock") then option_and_then (object_class names rows) t.inner else None

abbrev pub lock_of : List (List ℕ) → List Heritage → RawItem → List (Option ℕ)
lock_of names rows (items.Class c) = option_and_then (locked_class names rows) c.base ∷ []
lock_of names rows (items.Func f) = []

-- for each class the class that it locks, where it is a lock class
abbrev pub locks : List (List ℕ) → List Heritage → List RawItem → List (Option ℕ)
locks names rows xs = None ∷ flat_map (lock_of names rows) xs
