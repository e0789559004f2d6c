-- Classes by Python's single inheritance (Language Reference, "Class definitions"): the chain of bases, and the lookup of a
-- method in the nearest class that declares it. `names` has the names of the methods by their numbers.
use Rattle.std.specs.Prelude.{ℕ, zero, suc, Bool, false, nat_eq, List, [], ◌∷◌, length, slice_get, find, Option, Some, None, option_and_then}
use Rattle.std.specs.List.{list_any}
use Rattle.std.specs.Option.{option_or, option_map_or}
use Rattle.py_syntax.specs.declared.Class.{Class}

abbrev pub base_in : List Class → ℕ → Option ℕ
base_in cs c = option_and_then (λ (class : Class). class.base) (slice_get cs c)

-- a class and so many of its bases, the nearest first
abbrev pub chain_from : List Class → ℕ → Option ℕ → List ℕ
chain_from cs zero c = []
chain_from cs (suc n) None = []
chain_from cs (suc n) (Some c) = c ∷ chain_from cs n (base_in cs c)

-- a class and all above it, the nearest first; a base has a lower number, so no chain is longer than the list of classes
abbrev pub at_or_above : List Class → ℕ → List ℕ
at_or_above cs c = chain_from cs (length cs) (Some c)

-- whether d is c or above it
abbrev pub is_subclass : List Class → ℕ → ℕ → Bool
is_subclass cs c d = list_any (nat_eq d) (at_or_above cs c)

abbrev pub has_name : List ℕ → ℕ → ℕ → Bool
has_name names name i = option_map_or (nat_eq name) (slice_get names i) false

-- the method of the name that a class itself declares
abbrev pub own_method : List Class → List ℕ → ℕ → ℕ → Option ℕ
own_method cs names name c = option_and_then (λ (class : Class). find (has_name names name) class.methods) (slice_get cs c)

-- the first of these classes that declares the name gives the method
abbrev pub first_method : List Class → List ℕ → ℕ → List ℕ → Option ℕ
first_method cs names name [] = None
first_method cs names name (c ∷ above) = option_or (own_method cs names name c) (first_method cs names name above)

-- the method of a name in a class or the nearest class above it
abbrev pub lookup : List Class → List ℕ → ℕ → ℕ → Option ℕ
lookup cs names c name = first_method cs names name (at_or_above cs c)
