use Rattle.std.proofs.Common.{◌≡◌, ◌++◌, map, flat_map, take}
use Rattle.contract_forms.specs.Readings.{part_calls, argument_calls, link_calls, reading, argument_of, link_of}
use Rattle.contract_forms.proofs.pure_calls.+calls.Given as goal

abbrev pub invariant-add_parts-parts : goal.invariant-add_parts-parts
invariant-add_parts-parts l = l.calls ≡ l.fn.calls ++ flat_map (part_calls l.fn.functions l.fn.params) (map reading (take l.part-index l.part-items))

abbrev pub invariant-add_arguments-arguments : goal.invariant-add_arguments-arguments
invariant-add_arguments-arguments l = l.calls ≡ l.fn.calls ++ flat_map (argument_calls l.fn.functions l.fn.params) (map argument_of (take l.argument-index l.argument-items))

abbrev pub invariant-add_links-links : goal.invariant-add_links-links
invariant-add_links-links l = l.calls ≡ l.fn.calls ++ flat_map (link_calls l.fn.functions l.fn.params) (map link_of (take l.link-index l.link-items))
