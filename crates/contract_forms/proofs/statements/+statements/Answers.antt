use Rattle.std.proofs.Common.{◌≡◌, false, map, OnOk, subst}
use Rattle.contract_kinds.specs.declared.Spot.TheVariants as spots
use Rattle.contract_forms.specs.Readings.{scope}
use Rattle.contract_forms.specs.Heads.{block_breaches, in_code, all_blocks, line, part_block, handler_block}
use Rattle.contract_forms.proofs.statements.+statements.Goals as goal
use Rattle.contract_forms.proofs.Blocks.{if_is, while_is, try_is, with_is, joined, joined_four}

pub note_statement-returns-in_ok-note_parts-in-If : goal.note_statement-returns-in_ok-note_parts-in-If
note_statement-returns-in_ok-note_parts-in-If t c =
    let sc = scope c.args.functions.now c.args.method.now c.args.locals.now in
    let e = if_is c.args.s.now c.in-If.e c.in-If.body c.in-If.elifs c.in-If.other sc c.args.back c.args.at c.in-If.is in
    subst (λ fs. OnOk c.note_block-in-If.result (c.note_block-in-If.new.found ≡ fs))
    (joined_four c.args.found.now c.note_code-in-If.new.found c.note_block.new.found c.note_parts.new.found
    (in_code sc c.in-If.e) (block_breaches (map line c.in-If.body) sc c.args.back spots.Alone) (all_blocks sc c.args.back (map part_block c.in-If.elifs)) (block_breaches (map line c.in-If.other) sc c.args.back spots.Alone)
    ((line c.args.s.now).breaches sc c.args.back c.args.at) c.in_ok-note_code-in-If.ensures c.in_ok-note_block-in-If.ensures c.in_ok-note_parts-in-If.ensures e)
    c.note_block-in-If.ensures

pub note_statement-returns-in_ok-note_code-in-While : goal.note_statement-returns-in_ok-note_code-in-While
note_statement-returns-in_ok-note_code-in-While t c =
    let sc = scope c.args.functions.now c.args.method.now c.args.locals.now in
    let e = while_is c.args.s.now c.in-While.e c.in-While.body sc c.args.back c.args.at c.in-While.is in
    subst (λ fs. OnOk c.note_block-in-While.result (c.note_block-in-While.new.found ≡ fs))
    (joined c.args.found.now c.note_code-in-While.new.found (in_code sc c.in-While.e) (block_breaches (map line c.in-While.body) sc c.args.back (spots.LoopHead false))
    ((line c.args.s.now).breaches sc c.args.back c.args.at) c.in_ok-note_code-in-While.ensures e)
    c.note_block-in-While.ensures

pub note_statement-returns-in_ok-note_block-in-Try-2 : goal.note_statement-returns-in_ok-note_block-in-Try-2
note_statement-returns-in_ok-note_block-in-Try-2 t c =
    let sc = scope c.args.functions.now c.args.method.now c.args.locals.now in
    let e = try_is c.args.s.now c.in-Try.body c.in-Try.handlers c.in-Try.other c.in-Try.last sc c.args.back c.args.at c.in-Try.is in
    subst (λ fs. OnOk c.note_block-in-Try-3.result (c.note_block-in-Try-3.new.found ≡ fs))
    (joined_four c.args.found.now c.note_block-in-Try.new.found c.note_handlers.new.found c.note_block-in-Try-2.new.found
    (block_breaches (map line c.in-Try.body) sc c.args.back spots.Alone) (all_blocks sc c.args.back (map handler_block c.in-Try.handlers)) (block_breaches (map line c.in-Try.other) sc c.args.back spots.Alone) (block_breaches (map line c.in-Try.last) sc c.args.back spots.Alone)
    ((line c.args.s.now).breaches sc c.args.back c.args.at) c.in_ok-note_block-in-Try.ensures c.in_ok-note_handlers-in-Try.ensures c.in_ok-note_block-in-Try-2.ensures e)
    c.note_block-in-Try-3.ensures

pub note_statement-returns-in_ok-note_code-in-With : goal.note_statement-returns-in_ok-note_code-in-With
note_statement-returns-in_ok-note_code-in-With t c =
    let sc = scope c.args.functions.now c.args.method.now c.args.locals.now in
    let e = with_is c.args.s.now c.in-With.e c.in-With.body sc c.args.back c.args.at c.in-With.is in
    subst (λ fs. OnOk c.note_block-in-With.result (c.note_block-in-With.new.found ≡ fs))
    (joined c.args.found.now c.note_code-in-With.new.found (in_code sc c.in-With.e) (block_breaches (map line c.in-With.body) sc c.args.back spots.Alone)
    ((line c.args.s.now).breaches sc c.args.back c.args.at) c.in_ok-note_code-in-With.ensures e)
    c.note_block-in-With.ensures
