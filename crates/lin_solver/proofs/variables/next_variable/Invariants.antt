use Rattle.std.specs.Prelude.{◌≤◌, take, All, IfSome, IfNone}
use Rattle.lin_rows.specs.Derived.{Occurs}
use Rattle.lin_solver.specs.Variables.{HasNoneFrom, HasNoneBetween}
use Rattle.lin_solver.proofs.variables.next_variable.Given as goal

abbrev pub invariant-loop-row : goal.invariant-loop-row
invariant-loop-row l = record {
  some : IfSome l.least (λ v. (l.fn.from ≤ v) × Occurs l.fn.rows v);
  least : IfSome l.least (λ v. All (λ r. HasNoneBetween l.fn.from v r.coefs) (take l.row-index l.fn.rows));
  none : IfNone l.least (All (λ r. HasNoneFrom l.fn.from r.coefs) (take l.row-index l.fn.rows));
}
