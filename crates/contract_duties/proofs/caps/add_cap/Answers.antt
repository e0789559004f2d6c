use Rattle.std.proofs.Common.{to_z, of_z}
use Rattle.std.specs.Int.{w128}
use Rattle.std.proofs.lemmas.Int.{to_z-of_z}
use Rattle.std.proofs.Common.{sym, ◌∙◌}
use Rattle.contract_duties.proofs.Lower.{capped}
use Rattle.contract_duties.proofs.caps.add_cap.Goals as goal

pub returns-then-is_below : goal.returns-then-is_below
returns-then-is_below c =
    capped c.args.r c.args.z (to_z w128 (of_z w128 c.args.z)) c.loop-at.at c.len.result c.loop-at.caps c.as_slice.result.now c.args.caps.now c.set.new.self _ (to_z-of_z w128 c.args.z c.ranges.z)
    c.loop-at-test.true c.len.ensures c.as_slice.ensures c.loop-at.invariant.0 c.if-cap-r.true (sym c.is_below.ensures ∙ c.if-is_below.true) c.set.ensures c.loop-at.invariant.1
