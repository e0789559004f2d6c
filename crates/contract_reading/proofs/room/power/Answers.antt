use Rattle.std.proofs.Common.{rules}
use Rattle.contract_reading.proofs.Rooms.{past_power}
use Rattle.contract_reading.proofs.room.power.Goals as goal

pub returns-in-None : goal.returns-in-None
returns-in-None c = past_power c.args.base c.args.exponent c.loop.counter c.loop.product c.requires c.loop-test.true c.loop.invariant (search rules)
