use Rattle.std.proofs.Common.{◌≡◌, map, drop}
use Rattle.class_table.specs.Values.{every, link_is_plain}
use Rattle.class_table.proofs.values.+plain.Given as goal

abbrev pub invariant-are_links_plain-links : goal.invariant-are_links_plain-links
invariant-are_links_plain-links l = every (map (link_is_plain l.fn.params) (drop l.link-index l.link-items)) ≡ every (map (link_is_plain l.fn.params) l.link-items)
