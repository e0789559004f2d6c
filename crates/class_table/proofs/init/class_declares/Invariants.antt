use Rattle.std.proofs.Common.{◌≡◌, take, flat_map}
use Rattle.class_table.specs.Declaring.{member_declares}
use Rattle.class_table.proofs.init.class_declares.Given as goal

abbrev pub invariant-members : goal.invariant-members
invariant-members l = l.declared ≡ flat_map (member_declares l.names l.rows l.needed) (take l.method-index l.method-items)
