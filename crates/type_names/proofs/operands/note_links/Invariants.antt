use Rattle.std.proofs.Common.{◌≡◌, ◌++◌, drop}
use Rattle.type_names.specs.Operands.{links_faults}
use Rattle.type_names.proofs.operands.note_links.Given as goal

abbrev pub invariant-links : goal.invariant-links
invariant-links l = l.found ++ links_faults l.classes l.before (drop l.link-index l.links) ≡ l.fn.found ++ links_faults l.classes l.fn.first l.links
