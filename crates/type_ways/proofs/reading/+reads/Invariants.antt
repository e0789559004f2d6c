use Rattle.std.proofs.Common.{◌≡◌, ◌++◌, map, take}
use Rattle.type_base.specs.Faults.{joined}
use Rattle.type_ways.specs.Ways.{reads, reads_in, link_reads}
use Rattle.type_ways.proofs.reading.+reads.Given as goal

abbrev pub invariant-note_each-parts : goal.invariant-note_each-parts
invariant-note_each-parts l = l.found ≡ l.fn.found ++ joined (map (reads l.fn.name) (take l.part-index l.part-items))

abbrev pub invariant-note_arguments-arguments : goal.invariant-note_arguments-arguments
invariant-note_arguments-arguments l = l.found ≡ l.fn.found ++ joined (map (reads_in l.fn.name) (take l.argument-index l.argument-items))

abbrev pub invariant-note_links-links : goal.invariant-note_links-links
invariant-note_links-links l = l.found ≡ l.fn.found ++ joined (map (link_reads l.fn.name) (take l.link-index l.link-items))
