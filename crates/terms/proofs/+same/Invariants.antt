use Rattle.std.proofs.Common.{◌≡◌, take}
use Rattle.terms.proofs.+same.Given as goal

abbrev pub invariant-same::are_same-loop-i : goal.invariant-same::are_same-loop-i
invariant-same::are_same-loop-i l = take l.i l.t-items ≡ take l.i l.others
