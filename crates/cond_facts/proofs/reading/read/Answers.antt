use Rattle.std.proofs.Common.{subst, arith}
use Rattle.cond_facts.specs.FactRows.{AreThere}
use Rattle.cond_facts.proofs.Gathering.{read_more}
use Rattle.cond_facts.proofs.reading.read.Goals as goal

pub loop-place-preserved : goal.loop-place-preserved
loop-place-preserved c =
    let few = c.requires.few in
    let within = c.loop-place-test.true in
    let pair = c.in-Ok.pair in
    let added = c.in_ok-add_pair-in-Ok.ensures in
    read_more c.args.facts.now c.loop-place.place _ c.loop-place.reading.rows c.add_pair.new.self.rows c.loop-place.reading.numbers c.add_pair.new.self.numbers pair.first pair.second _ within c.loop-place.invariant (subst (λ l. AreThere l pair.first pair.second) c.index-facts-place.is c.in-Ok.ensures.rows) added.rows added.numbers (omega arith)
