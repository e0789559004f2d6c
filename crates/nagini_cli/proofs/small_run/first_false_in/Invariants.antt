use Rattle.std.proofs.Common.{◌≡◌, drop}
use Rattle.nagini_cli.specs.SmallRun.{first_false_in}
use Rattle.small_module.specs.SmallBody.{AreWithin, reach}
use Rattle.nagini_cli.proofs.small_run.first_false_in.Given as goal

abbrev pub invariant-loop-stmt : goal.invariant-loop-stmt
invariant-loop-stmt l =
    (first_false_in (drop l.stmt-index l.body) l.locals ≡ first_false_in l.body l.initial.locals)
    × AreWithin (reach l.stmt-index) l.locals
