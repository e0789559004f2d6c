use Rattle.std.proofs.Common.{◌≡◌, drop}
use Rattle.contract_kinds.specs.Order.{first_of}
use Rattle.contract_kinds.proofs.first.first_of.Given as goal

abbrev pub invariant-breaches : goal.invariant-breaches
invariant-breaches l = first_of l.best (drop l.breach-index l.breaches) ≡ first_of l.fn.so_far l.breaches
