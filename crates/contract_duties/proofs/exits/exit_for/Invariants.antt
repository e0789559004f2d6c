use Rattle.std.proofs.Common.{◌≡◌, drop}
use Rattle.py_syntax.specs.WaysOut.{exit_for}
use Rattle.contract_duties.proofs.exits.exit_for.Given as goal

abbrev pub invariant-loop-exit : goal.invariant-loop-exit
invariant-loop-exit l = exit_for l.m l.c (drop l.exit-index l.exits) ≡ exit_for l.m l.c l.exits
