use Rattle.std.proofs.Common.{◌≡◌, ◌++◌, map, take, drop}
use Rattle.contract_forms.specs.Readings.{scope}
use Rattle.contract_forms.specs.Heads.{block_breaches, all_blocks, line, part_block, handler_block}
use Rattle.contract_forms.proofs.statements.+statements.Given as goal

abbrev pub invariant-note_block-statements : goal.invariant-note_block-statements
invariant-note_block-statements l = l.found ++ block_breaches (map line (drop l.s-index l.s-items)) (scope l.fn.functions l.fn.method l.fn.locals) l.fn.back l.at ≡ l.fn.found ++ block_breaches (map line l.s-items) (scope l.fn.functions l.fn.method l.fn.locals) l.fn.back l.fn.first

abbrev pub invariant-note_parts-parts : goal.invariant-note_parts-parts
invariant-note_parts-parts l = l.found ≡ l.fn.found ++ all_blocks (scope l.fn.functions l.fn.method l.fn.locals) l.fn.back (map part_block (take l.part-index l.part-items))

abbrev pub invariant-note_handlers-handlers : goal.invariant-note_handlers-handlers
invariant-note_handlers-handlers l = l.found ≡ l.fn.found ++ all_blocks (scope l.fn.functions l.fn.method l.fn.locals) l.fn.back (map handler_block (take l.handler-index l.handler-items))
