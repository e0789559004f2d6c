use Rattle.std.proofs.Common.{◌≡◌, take}
use Rattle.py_syntax.proofs.+copy_assertion.Given as goal

abbrev pub invariant-copy::assertion::copy_assertions-loop-a : goal.invariant-copy::assertion::copy_assertions-loop-a
invariant-copy::assertion::copy_assertions-loop-a l = l.copy ≡ take l.a-index l.a-items
