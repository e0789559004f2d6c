use Rattle.std.proofs.Common.{◌≡◌, ◌∷◌, None, take, flat_map}
use Rattle.class_table.specs.Bases.{lock_of}
use Rattle.class_table.proofs.rows.locks.Given as goal

abbrev pub invariant-items : goal.invariant-items
invariant-items l = l.found ≡ None ∷ flat_map (lock_of l.names l.rows) (take l.item-index l.items)
