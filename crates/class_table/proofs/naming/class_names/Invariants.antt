use Rattle.std.proofs.Common.{◌≡◌, ◌∷◌, take, flat_map, codes}
use Rattle.class_table.specs.Bases.{class_name}
use Rattle.class_table.proofs.naming.class_names.Given as goal

abbrev pub invariant-items : goal.invariant-items
invariant-items l = l.names ≡ codes "Exception" ∷ flat_map class_name (take l.item-index l.items)
