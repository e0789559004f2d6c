use Rattle.std.proofs.Common.{◌≡◌, drop, find}
use Rattle.class_table.specs.Lookup.{has_name}
use Rattle.class_table.proofs.inheriting.find_method.Given as goal

abbrev pub invariant-methods : goal.invariant-methods
invariant-methods l = find (has_name l.names l.name) (drop l.method-index l.methods) ≡ find (has_name l.names l.name) l.methods
