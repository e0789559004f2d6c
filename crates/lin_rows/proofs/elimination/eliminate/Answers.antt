use Rattle.std.specs.Prelude.{◌≡◌, ℕ, ℤ, Result, Ok, Err, IfErr, FitsSigned}
use Rattle.std.specs.Int.{w128}
use Rattle.std.proofs.Common.{rules}
use Rattle.std.proofs.lemmas.Int.{to_z-of_z}
use Rattle.lin_rows.specs.declared.row.Row.{Row}
use Rattle.lin_rows.specs.declared.fault.RowFault.{RowFault}
use Rattle.lin_rows.specs.declared.fault.RowFault.TheVariants.{Wide}
use Rattle.lin_rows.specs.Terms.{coef_at}
use Rattle.lin_rows.specs.Rows.{SumFits}
use Rattle.lin_rows.specs.Lowest.{IsLowest, IsWideElimination}
use Rattle.lin_rows.proofs.elimination.eliminate.Goals as goal

-- a sum with the lowest multipliers that is too wide
wide_at : (r : Result Row RowFault) (v : ℕ) (a b : Row) (k l : ℤ) → IsLowest (coef_at a.coefs v) (coef_at b.coefs v) k l → IfErr r (λ e. e ≡ Wide → ¬ (SumFits k l a b)) → IfErr r (λ e. e ≡ Wide → IsWideElimination v a b)
wide_at (Ok row) v a b k l low h = tt
wide_at (Err e) v a b k l low h = λ is. (k, l, low, λ fits. h is fits.sum)

pub returns-clause-wide : goal.returns-clause-wide
returns-clause-wide c =
    let x : FitsSigned w128 c.coef.result = search rules in
    let y : FitsSigned w128 c.coef-2.result = search rules in
    let k : FitsSigned w128 c.in-Some.by_left = search rules in
    let l : FitsSigned w128 c.in-Some.by_right = search rules in
    let low = rw (to_z-of_z w128 c.coef.result x, to_z-of_z w128 c.coef-2.result y, c.coef.ensures, c.coef-2.ensures) at c.in-Some.ensures.some in
    wide_at c.combine.result c.args.var c.args.a.now c.args.b.now _ _ low (rw (to_z-of_z w128 c.in-Some.by_left k, to_z-of_z w128 c.in-Some.by_right l) at c.combine.ensures.wide)
