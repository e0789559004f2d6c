-- Classes, by Python's single inheritance (Language Reference, "Class definitions"): the chain of bases, the lookup of a method in the nearest class above, and the chain of overriding.
use Rattle.std.specs.Prelude.{◌≡◌, ℕ, zero, suc, Bool, false, List, [], ◌∷◌, length, Option, Some, None, slice_get, find, nat_eq}
use Rattle.std.specs.List.{list_any}
use Rattle.std.specs.Option.{option_or, option_and_then, option_map_or}
use Rattle.py_syntax.specs.declared.module.Class.{Class}
use Rattle.py_syntax.specs.declared.module.Method.{Method}
use Rattle.py_syntax.specs.declared.module.Module.{Module}

-- the base of a class, if it has one
abbrev pub base_of : Module → ℕ → Option ℕ
base_of m c = option_and_then (λ (class : Class). class.base) (slice_get m.classes c)

-- `d` is `c` or above it
pub data IsAtOrAbove (m : Module) (d : ℕ) : ℕ → Type 0 where
  itself : IsAtOrAbove m d d
  above : (c b : ℕ) → base_of m c ≡ Some b → IsAtOrAbove m d b → IsAtOrAbove m d c

-- a class and so many of its bases, the nearest first
abbrev pub bases_from : Module → ℕ → Option ℕ → List ℕ
bases_from m zero c = []
bases_from m (suc n) None = []
bases_from m (suc n) (Some c) = c ∷ bases_from m n (base_of m c)

-- a class and all above it, the nearest first; a base has a lower number, so no chain is longer than the list of classes
abbrev pub at_or_above : Module → ℕ → List ℕ
at_or_above m c = bases_from m (length m.classes) (Some c)

abbrev pub is_subclass : Module → ℕ → ℕ → Bool
is_subclass m c d = list_any (nat_eq d) (at_or_above m c)

-- whether the method of this number has the name
abbrev pub has_name : Module → ℕ → ℕ → Bool
has_name m name i = option_map_or (λ (method : Method). nat_eq method.name name) (slice_get m.methods i) false

-- the method of a name that a class itself declares
abbrev pub own_method : Module → ℕ → ℕ → Option ℕ
own_method m name c = option_and_then (λ (class : Class). find (has_name m name) class.methods) (slice_get m.classes c)

-- the first of these classes that declares the name gives the method
abbrev pub first_method : Module → ℕ → List ℕ → Option ℕ
first_method m name [] = None
first_method m name (c ∷ cs) = option_or (own_method m name c) (first_method m name cs)

-- the method of a name in a class or the nearest class above it
abbrev pub lookup : Module → ℕ → ℕ → Option ℕ
lookup m c name = first_method m name (at_or_above m c)

-- the nearest method of the same name in a class above the one that declares a method
abbrev pub overridden : Module → ℕ → Option ℕ
overridden m i =
    option_and_then (λ (method : Method).
    option_and_then (λ (owner : ℕ).
    option_and_then (λ (base : ℕ). lookup m base method.name) (base_of m owner)) method.owner) (slice_get m.methods i)

-- a method, and each that it overrides, that its overridden one overrides, and so on
pub data Overrides (m : Module) (s : ℕ) : ℕ → Type 0 where
  itself : Overrides m s s
  more : (r t : ℕ) → overridden m r ≡ Some t → Overrides m s t → Overrides m s r
