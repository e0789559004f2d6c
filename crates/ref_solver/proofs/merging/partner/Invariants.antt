use Rattle.std.proofs.Common.{◌≡◌, ℕ, ◌<◌, false}
use Rattle.ref_solver.specs.Classes.{links, class_at}
use Rattle.ref_solver.proofs.merging.partner.Given as goal

abbrev pub invariant-loop-i : goal.invariant-loop-i
invariant-loop-i l = (k : ℕ) → k < l.i → links l.lits l.classes (class_at l.classes k) (class_at l.classes l.j) ≡ false
