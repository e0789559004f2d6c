-- Faults of types: each rule gives a list of them, with their places.
use Rattle.std.specs.Prelude.{Bool, true, false, List, [], ◌∷◌, flat_map}
use Rattle.py_base.specs.declared.Place.{Place}
use Rattle.type_base.specs.declared.fault.Fault.{Fault}
use Rattle.type_base.specs.declared.fault.Rank.{Rank}

abbrev pub fault : Place → Rank → Fault
fault p r = record { place = p; rank = r }

abbrev pub fault_if : Bool → Place → Rank → List Fault
fault_if true p r = fault p r ∷ []
fault_if false p r = []

abbrev pub joined : List (List Fault) → List Fault
joined = flat_map (λ fs. fs)
