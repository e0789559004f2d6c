-- What the first of some faults is.
use Rattle.std.specs.Prelude.{◌≡◌, ◌⊎◌, false, List, [], ◌∷◌, ⊤}
use Rattle.class_table.specs.declared.fault.ClassFault.{ClassFault}
use Rattle.class_table.specs.Faults.{comes_before}

abbrev pub IsAmong : ClassFault → List ClassFault → Type 0
IsAmong f [] = ⊥
IsAmong f (g ∷ gs) = (f ≡ g) ⊎ IsAmong f gs

-- none of them comes before f
abbrev pub NoneComesBefore : ClassFault → List ClassFault → Type 0
NoneComesBefore f [] = ⊤
NoneComesBefore f (g ∷ gs) = (comes_before g f ≡ false) × NoneComesBefore f gs

pub record IsFirstOf (fs : List ClassFault) (f : ClassFault) : Type 0 where
  pub is_among : IsAmong f fs
  pub is_first : NoneComesBefore f fs
