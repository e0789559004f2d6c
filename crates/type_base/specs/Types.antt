-- The types of a text by its classes: `int`, `bool`, `Thread`, a class that isn't one of exceptions, `Optional` of such a
-- class, and `None` as a result. A name in quotes is that name.
use Rattle.std.specs.Prelude.{ℕ, Bool, true, false, List, position, slice_get, Option, Some, None, option_and_then, if◌then◌else◌, codes, bytes_eq}
use Rattle.std.specs.Option.{option_map, option_map_or}
use Rattle.raw_syntax.specs.declared.RawTy.{RawTy}
use Rattle.py_syntax.specs.declared.Ty.{Ty}
use Rattle.py_syntax.specs.declared.Ty.TheVariants as types
use Rattle.py_syntax.specs.declared.Class.{Class}
use Rattle.py_syntax.specs.declared.ClassSort.{ClassSort}
use Rattle.py_syntax.specs.declared.ClassSort.TheVariants as sorts
use Rattle.class_table.specs.declared.Classes.{Classes}

-- whether the name of this number is the one given
abbrev pub is_called : List (List ℕ) → List ℕ → ℕ → Bool
is_called names name n = option_map_or (bytes_eq name) (slice_get names n) false

abbrev pub class_is_called : List (List ℕ) → List ℕ → Class → Bool
class_is_called names name c = is_called names name c.name

-- the class that a name means
abbrev pub class_named : Classes → List ℕ → Option ℕ
class_named cs name = position (class_is_called cs.names name) cs.list

abbrev pub sort_is_exception : ClassSort → Bool
sort_is_exception sorts.Exc = true
sort_is_exception s = false

abbrev pub is_exception : Classes → ℕ → Bool
is_exception cs k = option_map_or (λ (c : Class). sort_is_exception c.sort) (slice_get cs.list k) false

abbrev pub sort_locks : ClassSort → Option ℕ
sort_locks (sorts.LockOver k p) = Some k
sort_locks s = None

-- the class that a class of locks locks
abbrev pub locked_by : Classes → ℕ → Option ℕ
locked_by cs k = option_and_then (λ (c : Class). sort_locks c.sort) (slice_get cs.list k)

-- a class that a type may name: exceptions have no type
abbrev pub unless_exception : Classes → ℕ → Option ℕ
unless_exception cs k = if is_exception cs k then None else Some k

abbrev pub object_class : Classes → List ℕ → Option ℕ
object_class cs name = option_and_then (unless_exception cs) (class_named cs name)

-- a class that may be raised and caught
abbrev pub if_exception : Classes → ℕ → Option ℕ
if_exception cs k = if is_exception cs k then Some k else None

abbrev pub exception_class : Classes → List ℕ → Option ℕ
exception_class cs name = option_and_then (if_exception cs) (class_named cs name)

abbrev pub type_named : Classes → List ℕ → Option Ty
type_named cs name =
    if bytes_eq name (codes "int") then Some types.Int
    else if bytes_eq name (codes "bool") then Some types.Bool
    else if bytes_eq name (codes "Thread") then Some types.Thr
    else option_map (λ k. types.Obj k) (object_class cs name)

abbrev pub type_within : Classes → List ℕ → List ℕ → Option Ty
type_within cs name inner = if bytes_eq name (codes "Optional") then option_map (λ k. types.Opt k) (object_class cs inner) else None

abbrev pub type_by : Classes → List ℕ → Option (List ℕ) → Option Ty
type_by cs name None = type_named cs name
type_by cs name (Some inner) = type_within cs name inner

-- the type of values that an annotation means
abbrev pub ty_of : Classes → RawTy → Option Ty
ty_of cs t = type_by cs t.head t.inner

abbrev pub result_by : Classes → List ℕ → Option (List ℕ) → Option Ty
result_by cs name None = if bytes_eq name (codes "None") then Some types.Void else type_named cs name
result_by cs name (Some inner) = type_within cs name inner

-- the type of a result
abbrev pub result_of : Classes → RawTy → Option Ty
result_of cs t = result_by cs t.head t.inner
