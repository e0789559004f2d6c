use Rattle.std.proofs.Common.{◌≡◌, map, drop}
use Rattle.type_rules.specs.Scopes.{in_turn, locals_of, part_locals, handler_locals}
use Rattle.type_rules.proofs.locals.+locals.Given as goal

abbrev pub invariant-add_block-statements : goal.invariant-add_block-statements
invariant-add_block-statements l = in_turn (map (locals_of l.classes l.functions) (drop l.s-index l.s-items)) l.scope ≡ in_turn (map (locals_of l.classes l.functions) l.s-items) l.fn.scope

abbrev pub invariant-add_parts-parts : goal.invariant-add_parts-parts
invariant-add_parts-parts l = in_turn (map (part_locals l.classes l.functions) (drop l.part-index l.part-items)) l.scope ≡ in_turn (map (part_locals l.classes l.functions) l.part-items) l.fn.scope

abbrev pub invariant-add_handlers-handlers : goal.invariant-add_handlers-handlers
invariant-add_handlers-handlers l = in_turn (map (handler_locals l.classes l.functions) (drop l.handler-index l.handler-items)) l.scope ≡ in_turn (map (handler_locals l.classes l.functions) l.handler-items) l.fn.scope
