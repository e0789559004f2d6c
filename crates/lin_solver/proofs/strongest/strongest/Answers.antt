use Rattle.std.specs.Prelude.{get_or, take}
use Rattle.std.proofs.Common.{arith}
use Rattle.std.proofs.lemmas.List.{take_all}
use Rattle.std.proofs.lemmas.List.Elements.{All-more, Contains-get_or}
use Rattle.lin_solver.specs.Numbers.{HasRow, IsAny, FollowsFrom}
use Rattle.lin_solver.proofs.StrongestLemmas.{have_among, follow_all, among_more}
use Rattle.lin_solver.proofs.strongest.strongest.Goals as goal

pub add_strongest-requires-clause-rows : goal.add_strongest-requires-clause-rows
add_strongest-requires-clause-rows c =
    have_among c.args.rows.now c.args.steps.now IsAny c.args.numbers.now c.loop-number.kept c.requires c.loop-number.invariant.among

pub loop-number-preserved : goal.loop-number-preserved
loop-number-preserved c =
    let rows = c.args.rows.now in
    let steps = c.args.steps.now in
    let numbers = c.args.numbers.now in
    let i = c.loop-number.number-index in
    let inv = c.loop-number.invariant in
    let new = c.add_strongest.new.kept in
    let is = c.in_ok-add_strongest.ensures in record {
      among = among_more numbers c.loop-number.kept new (get_or numbers i 0) (Contains-get_or numbers i 0 c.loop-number-test.true) inv.among is.among;
      all = All-more (HasRow rows steps (FollowsFrom rows steps new)) numbers i 0 c.loop-number-test.true (follow_all rows steps c.loop-number.kept new (take i numbers) is.all inv.all) is.own;
      apart = is.apart;
    }

pub returns-clause-all : goal.returns-clause-all
returns-clause-all c =
    rw (take_all c.loop-number.number-index c.args.numbers.now (omega (arith, c.loop-number-test.false))) at c.loop-number.invariant.all
