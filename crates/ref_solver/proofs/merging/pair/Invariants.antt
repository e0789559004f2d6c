use Rattle.std.proofs.Common.{◌≡◌, ℕ, ◌<◌, false}
use Rattle.ref_solver.specs.Classes.{links, class_at}
use Rattle.ref_solver.proofs.merging.pair.Given as goal

abbrev pub invariant-loop-j : goal.invariant-loop-j
invariant-loop-j l = (i k : ℕ) → i < k → k < l.j → links l.lits l.classes (class_at l.classes i) (class_at l.classes k) ≡ false
