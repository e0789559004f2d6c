use Rattle.std.proofs.Common.{◌≡◌, take}
use Rattle.py_syntax.proofs.copy.stmt.copy_print_args.Given as goal

abbrev pub invariant-loop-arg : goal.invariant-loop-arg
invariant-loop-arg l = l.copy ≡ take l.arg-index l.arg-items
