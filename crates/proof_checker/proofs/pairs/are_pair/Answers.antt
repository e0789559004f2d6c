use Rattle.std.proofs.Common.{refl}
use Rattle.proof_checker.proofs.Pairing.{first_pair, second_pair, last_pair}
use Rattle.proof_checker.proofs.pairs.are_pair.Goals as goal

pub returns-then-are_sides : goal.returns-then-are_sides
returns-then-are_sides c =
    (λ h. first_pair c.args.c.now c.args.a.now c.args.b.now (c.are_sides.ensures.0 c.if-are_sides.true), λ h. refl)

pub returns-then-are_sides-2 : goal.returns-then-are_sides-2
returns-then-are_sides-2 c =
    (λ h. second_pair c.args.c.now c.args.a.now c.args.b.now (c.are_sides-else-are_sides.ensures.0 c.if-are_sides-2.true), λ h. refl)

pub returns-else-are_sides-2 : goal.returns-else-are_sides-2
returns-else-are_sides-2 c =
    last_pair c.args.c.now c.args.a.now c.args.b.now c.are_operands.result (λ s. let on = c.are_sides.ensures.1 s in absurd (cc (on, c.if-are_sides.false))) (λ s. let on = c.are_sides-else-are_sides.ensures.1 s in absurd (cc (on, c.if-are_sides-2.false))) c.are_operands.ensures
