use Rattle.std.proofs.Common.{◌≡◌, ◌≤◌, arith}
use Rattle.schedule_runner.proofs.Played.{fair_then, fair_cut, plays_goes}
use Rattle.schedule_runner.proofs.turn.play_line.Goals as goal

pub returns-in-Ok-Goes-clause-plays : goal.returns-in-Ok-Goes-clause-plays
returns-in-Ok-Goes-clause-plays g c =
    let some : 1 ≤ c.in-Fair.count = grind (arith, c.in-Fair.count-test) in
    fair_then c.args.m.now c.args.line c.in-Fair.count c.args.running.now c.take_turn.new.running c.repeat-in-Ok-Goes.new.running c.repeat-in-Ok-Goes.result _ _ _ c.in-Fair.is some (plays_goes _ _ _ _ _ _ _ c.in-Ok-Goes.field-0-is c.in-Ok-Goes.ensures.plays) c.repeat-in-Ok-Goes.ensures.plays

pub returns-in-Err-clause-plays : goal.returns-in-Err-clause-plays
returns-in-Err-clause-plays g c =
    let some : 1 ≤ c.in-Fair.count = grind (arith, c.in-Fair.count-test) in
    fair_cut c.args.m.now c.args.line c.in-Fair.count c.args.running.now _ _ c.in-Fair.is some c.in-Err.ensures.plays
