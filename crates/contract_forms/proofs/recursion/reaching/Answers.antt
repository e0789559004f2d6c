use Rattle.std.proofs.Common.{length, arith}
use Rattle.contract_forms.proofs.recursion.reaching.Goals as goal
use Rattle.contract_forms.proofs.Rounds.{enough}

pub returns-then-eq : goal.returns-then-eq
returns-then-eq c =
    enough c.args.rows.now c.args.target c.rounds._round (length c.args.rows.now) c.rounds.reached c.in_ok-next.next c.as_slice.result.now c.as_slice-in-rounds.result.now c.as_slice-in-rounds-2.result.now
    (omega (arith, c.rounds-test.true)) c.rounds.invariant c.as_slice.ensures c.in_ok-next.ensures c.as_slice-in-rounds.ensures c.as_slice-in-rounds-2.ensures c.if-eq.ensures
