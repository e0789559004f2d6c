use Rattle.std.proofs.Common.{◌≡◌, ◌++◌, map, flat_map, take, drop}
use Rattle.contract_forms.specs.Readings.{scope, gives, reading, argument_of, link_of, part_breaches, arguments_breaches, link_breaches}
use Rattle.contract_forms.proofs.expressions.+breaches.Given as goal

abbrev pub invariant-note_parts-parts : goal.invariant-note_parts-parts
invariant-note_parts-parts l = l.found ≡ l.fn.found ++ flat_map (part_breaches (scope l.fn.functions l.fn.method l.fn.locals) l.fn.at) (map reading (take l.part-index l.part-items))

abbrev pub invariant-note_arguments-arguments : goal.invariant-note_arguments-arguments
invariant-note_arguments-arguments l = record {
  at : l.number ≡ l.argument-index;
  valued : l.valued ≡ gives (scope l.fn.functions l.fn.method l.fn.locals);
  same : l.found ++ arguments_breaches (scope l.fn.functions l.fn.method l.fn.locals) l.fn.contract l.fn.at l.number (map argument_of (drop l.argument-index l.argument-items)) ≡ l.fn.found ++ arguments_breaches (scope l.fn.functions l.fn.method l.fn.locals) l.fn.contract l.fn.at 0 (map argument_of l.argument-items);
}

abbrev pub invariant-note_links-links : goal.invariant-note_links-links
invariant-note_links-links l = l.found ≡ l.fn.found ++ flat_map (link_breaches (scope l.fn.functions l.fn.method l.fn.locals) l.fn.at) (map link_of (take l.link-index l.link-items))
