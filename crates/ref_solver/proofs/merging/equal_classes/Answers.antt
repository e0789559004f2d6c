use Rattle.std.specs.Prelude.{Result, Ok, Err, IfOk, List}
use Rattle.std.proofs.Common.{subst, sym}
use Rattle.py_base.specs.declared.OutOfMemory.{OutOfMemory}
use Rattle.terms.specs.declared.Term.{Term}
use Rattle.terms.specs.declared.Literal.{Literal}
use Rattle.ref_solver.specs.Classes.{ArePartial, AreSettled, AreClasses}
use Rattle.ref_solver.proofs.Merged.{alone_partial}
use Rattle.ref_solver.proofs.Exact.{exact_classes}
use Rattle.ref_solver.proofs.merging.equal_classes.Goals as goal

exact_result : (ls : List Literal) (r : Result (List (List Term)) OutOfMemory) → IfOk r (λ cs. ArePartial ls cs) → IfOk r (λ cs. AreSettled ls cs) → IfOk r (λ cs. AreClasses ls cs)
exact_result ls (Ok cs) h k = exact_classes ls cs h k
exact_result ls (Err e) h k = tt

pub settle-requires : goal.settle-requires
settle-requires c =
    subst (ArePartial c.args.lits.now) (sym c.in_ok-first.ensures) (alone_partial c.args.lits.now)

pub returns : goal.returns
returns c = exact_result c.args.lits.now c.settle.result c.settle.ensures.partial c.settle.ensures.settled
