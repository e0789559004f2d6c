use Rattle.std.proofs.Common.{◌≡◌, map, drop}
use Rattle.class_table.specs.Values.{every, is_free, link_is_free}
use Rattle.class_table.proofs.values.+free.Given as goal

abbrev pub invariant-are_free-parts : goal.invariant-are_free-parts
invariant-are_free-parts l = every (map is_free (drop l.part-index l.part-items)) ≡ every (map is_free l.part-items)

abbrev pub invariant-are_links_free-links : goal.invariant-are_links_free-links
invariant-are_links_free-links l = every (map link_is_free (drop l.link-index l.link-items)) ≡ every (map link_is_free l.link-items)
