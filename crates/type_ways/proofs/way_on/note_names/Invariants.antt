use Rattle.std.proofs.Common.{◌≡◌, ◌++◌, take, flat_map}
use Rattle.type_ways.specs.Ways.{name_faults}
use Rattle.type_ways.proofs.way_on.note_names.Given as goal

abbrev pub invariant-names : goal.invariant-names
invariant-names l = l.found ≡ l.fn.found ++ flat_map (name_faults l.body) (take l.name-index l.names)
