use Rattle.std.specs.Prelude.{ℕ, ◌+◌, length}
use Rattle.lin_rows.proofs.MergeLemmas.{Mixes}
use Rattle.lin_rows.proofs.combination.combine.Given as goal

abbrev pub invariant-terms : goal.invariant-terms
invariant-terms l =
    (low : ℕ) × Mixes l.fn.by_left l.fn.by_right l.fn.a.coefs l.fn.b.coefs low l.coefs l.left l.right

abbrev pub decreases-terms : goal.decreases-terms
decreases-terms l = length l.left + length l.right
