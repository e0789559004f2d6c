use Rattle.std.proofs.Common.{◌≡◌, ◌++◌, map, take, drop}
use Rattle.type_names.specs.declared.Meaning.TheVariants as meanings
use Rattle.type_terms.specs.Expressions.{asked, all_faults, all_types, parts_worth, link_at, compared, arguments_typing, argued_faults, argued_types, givens, typing, argument_of, link_of}
use Rattle.type_terms.proofs.expressions.+typing.Given as goal

abbrev pub invariant-type_parts-parts : goal.invariant-type_parts-parts
invariant-type_parts-parts l = record {
  worths : l.worths ≡ parts_worth (map (asked l.at) (map (typing l.classes l.functions l.scope) (take l.part-index l.part-items)));
  faults : l.found ≡ l.fn.found ++ all_faults (map (asked l.at) (map (typing l.classes l.functions l.scope) (take l.part-index l.part-items)));
  types : l.types ≡ l.fn.types ++ all_types (map (asked l.at) (map (typing l.classes l.functions l.scope) (take l.part-index l.part-items)));
}

abbrev pub invariant-type_links-links : goal.invariant-type_links-links
invariant-type_links-links l = record {
  worths : l.all ≡ map (compared l.at) (map (link_of l.classes l.functions l.scope) (take l.link-index l.link-items));
  faults : l.found ≡ l.fn.found ++ all_faults (map (link_at l.at) (map (link_of l.classes l.functions l.scope) (take l.link-index l.link-items)));
  types : l.types ≡ l.fn.types ++ all_types (map (link_at l.at) (map (link_of l.classes l.functions l.scope) (take l.link-index l.link-items)));
}

abbrev pub invariant-type_arguments-arguments : goal.invariant-type_arguments-arguments
invariant-type_arguments-arguments l = record {
  at : l.number ≡ l.argument-index;
  worths : l.all ++ givens (arguments_typing l.callee l.at l.number l.before (map (argument_of l.classes l.functions l.scope) (drop l.argument-index l.argument-items))) ≡ givens (arguments_typing l.callee l.at 0 meanings.Plain (map (argument_of l.classes l.functions l.scope) l.argument-items));
  faults : l.found ++ argued_faults (arguments_typing l.callee l.at l.number l.before (map (argument_of l.classes l.functions l.scope) (drop l.argument-index l.argument-items))) ≡ l.fn.found ++ argued_faults (arguments_typing l.callee l.at 0 meanings.Plain (map (argument_of l.classes l.functions l.scope) l.argument-items));
  types : l.types ++ argued_types (arguments_typing l.callee l.at l.number l.before (map (argument_of l.classes l.functions l.scope) (drop l.argument-index l.argument-items))) ≡ l.fn.types ++ argued_types (arguments_typing l.callee l.at 0 meanings.Plain (map (argument_of l.classes l.functions l.scope) l.argument-items));
}
