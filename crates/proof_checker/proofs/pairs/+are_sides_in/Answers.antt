use Rattle.std.proofs.Common.{take, drop, length, ◌-◌, sym}
use Rattle.proof_checker.proofs.Counting.{first_literal}
use Rattle.proof_checker.proofs.Pairing.{sides_else}
use Rattle.proof_checker.proofs.pairs.+are_sides_in.Goals as goal

pub returns-else-are_sides_of : goal.returns-else-are_sides_of
returns-else-are_sides_of t c =
    let ls = c.args.ls.now in
    let l = c.l-item.result in
    let is = first_literal ls l c.in-len1-up.len_at_least (sym c.l-item.is) in
    sides_else ls (take (length ls - 1) (drop 1 ls)) l c.args.a.now c.args.b.now c.are_sides_in.result is (λ e. let on = c.are_sides_of.ensures.1 e in absurd (cc (on, c.if-are_sides_of.false))) c.are_sides_in.ensures
