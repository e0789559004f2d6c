use Rattle.std.specs.Prelude.{take}
use Rattle.cond_facts.specs.FactRows.{AreRead}
use Rattle.cond_facts.proofs.reading.read.Given as goal

abbrev pub invariant-loop-place : goal.invariant-loop-place
invariant-loop-place l = AreRead (take l.place l.fn.facts) l.reading.rows l.reading.numbers
