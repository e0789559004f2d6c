use Rattle.std.proofs.Common.{◌≡◌, ◌++◌, Some, map, drop}
use Rattle.machine_items.proofs.entering.given.Given as goal

abbrev pub invariant-loop-value : goal.invariant-loop-value
invariant-loop-value l = l.store ++ map (λ v. Some v) (drop l.value-index l.args) ≡ map (λ v. Some v) l.args
