use Rattle.std.specs.Prelude.{◌≡◌, pos, FitsSigned}
use Rattle.std.specs.Int.{w128}
use Rattle.std.proofs.Common.{rules}
use Rattle.std.proofs.lemmas.Int.{to_z-of_z}
use Rattle.lin_rows.specs.declared.fault.RowFault.TheVariants.{Wide}
use Rattle.lin_solver.specs.WayBack.{signed_number}
use Rattle.lin_solver.proofs.WideLemmas.{wide_value, wide_values}
use Rattle.lin_solver.proofs.extension.extended.Goals as goal

pub returns-in_default-signed-clause-wide : goal.returns-in_default-signed-clause-wide
returns-in_default-signed-clause-wide c same =
    wide_value c.args.point.now (pos c.args.scale) (signed_number c.args.negative c.args.size) c.args.var c.in_default-signed.ensures

pub returns-in_err-values-clause-wide : goal.returns-in_err-values-clause-wide
returns-in_err-values-clause-wide c =
    let point = c.args.point.now in
    let z = signed_number c.args.negative c.args.size in
    let scale = c.in-Ok.ensures.1 in
    let fits : FitsSigned w128 c.in-Ok.scale = search rules in
    let wide = λ (e : c.in_err-values.field-0.0 ≡ Wide). wide_values point (pos c.args.scale) z c.args.var (rw (to_z-of_z w128 c.in-Ok.scale fits, scale, c.as_slice.ensures) at (c.in_err-values.ensures.wide e)) in
    search (rules, wide)
