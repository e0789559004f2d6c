use Rattle.proof_checker.specs.Chains.{facts, view_literal}
use Rattle.proof_checker.proofs.Sided.{no_numbers, side_apart, side_order, no_pair}
use Rattle.proof_checker.proofs.splits.other_order.Goals as goal

pub returns-then-not-are_numbers : goal.returns-then-not-are_numbers
returns-then-not-are_numbers c =
    no_numbers c.args.c.now (facts c.args.chain.now) c.args.a.now c.args.b.now (λ h. let on = c.are_numbers.ensures.1 h in absurd (cc (on, c.if-not-are_numbers.true)))

pub returns-in-Some : goal.returns-in-Some
returns-in-Some c =
    side_apart c.args.c.now (facts c.args.chain.now) c.args.a.now c.args.b.now c.in-Some.x.now (view_literal c.turned_order.result) (c.are_numbers.ensures.0 c.if-not-are_numbers.false) c.in-Some.ensures c.turned_order.ensures

pub returns-then-are_pair : goal.returns-then-are_pair
returns-then-are_pair c =
    side_order c.args.c.now (facts c.args.chain.now) c.args.a.now c.args.b.now (view_literal c.turned_order-then-are_pair.result) (c.are_numbers.ensures.0 c.if-not-are_numbers.false) c.in-None.ensures (c.are_pair.ensures.0 c.if-are_pair.true) c.turned_order-then-are_pair.ensures

pub returns-else-are_pair : goal.returns-else-are_pair
returns-else-are_pair c =
    no_pair c.args.c.now (facts c.args.chain.now) c.args.a.now c.args.b.now c.in-None.ensures (λ h. let on = c.are_pair.ensures.1 h in absurd (cc (on, c.if-are_pair.false)))
