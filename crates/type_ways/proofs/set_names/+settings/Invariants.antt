use Rattle.std.proofs.Common.{◌≡◌, ◌++◌, map, take}
use Rattle.type_ways.specs.Settings.{all_of, settings, part_settings, handler_settings}
use Rattle.type_ways.proofs.set_names.+settings.Given as goal

abbrev pub invariant-add_block-statements : goal.invariant-add_block-statements
invariant-add_block-statements l = l.all ≡ l.fn.all ++ all_of (map settings (take l.s-index l.s-items))

abbrev pub invariant-add_parts-parts : goal.invariant-add_parts-parts
invariant-add_parts-parts l = l.all ≡ l.fn.all ++ all_of (map part_settings (take l.part-index l.part-items))

abbrev pub invariant-add_handlers-handlers : goal.invariant-add_handlers-handlers
invariant-add_handlers-handlers l = l.all ≡ l.fn.all ++ all_of (map handler_settings (take l.handler-index l.handler-items))
