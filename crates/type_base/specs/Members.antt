-- What a text's names mean: its functions, and the fields and methods of a class with those of its bases, of which the nearest
-- one that has the name counts.
use Rattle.std.specs.Prelude.{ℕ, suc, Bool, nat_eq, List, [], ◌∷◌, length, find, slice_get, Option, Some, None, option_and_then, if◌then◌else◌, bytes_eq}
use Rattle.std.specs.Option.{option_map, option_or}
use Rattle.raw_syntax.specs.declared.RawFunc.{RawFunc}
use Rattle.raw_syntax.specs.declared.RawClass.{RawClass}
use Rattle.raw_syntax.specs.declared.RawItem.{RawItem}
use Rattle.raw_syntax.specs.declared.RawItem.TheVariants as items
use Rattle.py_syntax.specs.declared.Ty.{Ty}
use Rattle.py_syntax.specs.declared.Field.{Field}
use Rattle.py_syntax.specs.declared.Class.{Class}
use Rattle.class_table.specs.declared.Classes.{Classes}
use Rattle.class_table.specs.Lookup.{base_in, chain_from}
use Rattle.type_base.specs.Types.{is_called}

abbrev pub function_called : List ℕ → RawItem → Option RawFunc
function_called name (items.Class c) = None
function_called name (items.Func f) = if bytes_eq name f.name then Some f else None

-- the function of the module of this name
abbrev pub function_named : List ℕ → List RawItem → Option RawFunc
function_named name [] = None
function_named name (x ∷ xs) = option_or (function_called name x) (function_named name xs)

-- the class of number k as it is written, where the first class here has number n
abbrev pub class_from : ℕ → ℕ → List RawItem → Option RawClass
class_from k n [] = None
class_from k n (items.Class c ∷ xs) = if nat_eq k n then Some c else class_from k (suc n) xs
class_from k n (items.Func f ∷ xs) = class_from k n xs

-- the class of number k as it is written; `Exception`, class 0, isn't written
abbrev pub written_class : List RawItem → ℕ → Option RawClass
written_class xs k = class_from k 1 xs

abbrev pub method_is_called : List ℕ → RawFunc → Bool
method_is_called name m = bytes_eq name m.name

-- the method that the class itself has
abbrev pub own_method : List RawItem → List ℕ → ℕ → Option RawFunc
own_method xs name k = option_and_then (λ (c : RawClass). find (method_is_called name) c.members) (written_class xs k)

-- what the first of these classes has that has it
abbrev pub first_in : {X : Type 0} → (ℕ → Option X) → List ℕ → Option X
first_in own [] = None
first_in own (k ∷ above) = option_or (own k) (first_in own above)

-- the method of a name in this class, if any, or the nearest class above it
abbrev pub method_from : Classes → List RawItem → List ℕ → Option ℕ → Option RawFunc
method_from cs xs name k = first_in (own_method xs name) (chain_from cs.list (length cs.list) k)

abbrev pub method_of : Classes → List RawItem → ℕ → List ℕ → Option RawFunc
method_of cs xs k name = method_from cs xs name (Some k)

-- the method of a name in the classes above this one
abbrev pub method_above : Classes → List RawItem → ℕ → List ℕ → Option RawFunc
method_above cs xs k name = method_from cs xs name (base_in cs.list k)

abbrev pub field_is_called : List (List ℕ) → List ℕ → Field → Bool
field_is_called names name f = is_called names name f.name

-- the field that the class itself has
abbrev pub own_field : Classes → List ℕ → ℕ → Option Field
own_field cs name k = option_and_then (λ (c : Class). find (field_is_called cs.names name) c.fields) (slice_get cs.list k)

abbrev pub first_field : Classes → ℕ → List ℕ → Option Field
first_field cs k name = first_in (own_field cs name) (chain_from cs.list (length cs.list) (Some k))

-- the type of the field of a name in a class with its bases; Void where its annotation is no type
abbrev pub field_of : Classes → ℕ → List ℕ → Option Ty
field_of cs k name = option_map (λ (f : Field). f.ty) (first_field cs k name)
