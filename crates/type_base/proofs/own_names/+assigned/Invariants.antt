use Rattle.std.proofs.Common.{◌≡◌, ◌++◌, map, take}
use Rattle.type_base.specs.Locals.{names_of, assigned_names, part_names, handler_names}
use Rattle.type_base.proofs.own_names.+assigned.Given as goal

abbrev pub invariant-add_block-statements : goal.invariant-add_block-statements
invariant-add_block-statements l = l.names ≡ l.fn.names ++ names_of (map assigned_names (take l.s-index l.s-items))

abbrev pub invariant-add_parts-parts : goal.invariant-add_parts-parts
invariant-add_parts-parts l = l.names ≡ l.fn.names ++ names_of (map part_names (take l.part-index l.part-items))

abbrev pub invariant-add_handlers-handlers : goal.invariant-add_handlers-handlers
invariant-add_handlers-handlers l = l.names ≡ l.fn.names ++ names_of (map handler_names (take l.handler-index l.handler-items))
