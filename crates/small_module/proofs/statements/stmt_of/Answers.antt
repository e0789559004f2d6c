use Rattle.std.proofs.Common.{◌≡◌}
use Rattle.small_module.specs.SmallTree.{view}
use Rattle.small_module.specs.SmallModule.{check_of, print_of}
use Rattle.small_module.proofs.Kept.{asserted, evaluated}
use Rattle.small_module.proofs.statements.stmt_of.Goals as goal

pub returns-in_ok-check_of-in-Assert-clause-says : goal.returns-in_ok-check_of-in-Assert-clause-says
returns-in_ok-check_of-in-Assert-clause-says c =
    let same : c.in_ok-check_of-in-Assert.field-0 ≡ check_of c.args.s.now.place (view c.args.names.now.items c.in-Assert.e).shape = cc (c.in_ok-check_of-in-Assert.ensures, c.deref.ensures.value) in
    asserted c.args.names.now.items c.args.s.now c.in-Assert.e _ same c.in-Assert.is

pub returns-in_ok-print_of-in-Eval-clause-says : goal.returns-in_ok-print_of-in-Eval-clause-says
returns-in_ok-print_of-in-Eval-clause-says c =
    let same : c.in_ok-print_of-in-Eval.field-0 ≡ print_of c.args.s.now.place (view c.args.names.now.items c.in-Eval.e).place (view c.args.names.now.items c.in-Eval.e).shape = cc (c.in_ok-print_of-in-Eval.ensures, c.deref-in-Eval.ensures.value) in
    evaluated c.args.names.now.items c.args.s.now c.in-Eval.e _ same c.in-Eval.is
