use Rattle.std.specs.Prelude.{◌≡◌, ◌+◌, ℕ, ℤ, pos, ◌-ℤ◌, ◌*ℤ◌, drop, get_or, FitsSigned}
use Rattle.std.specs.Int.{w128}
use Rattle.std.proofs.Common.{rules, ap, ◌∙◌, subst, to_z}
use Rattle.std.proofs.lemmas.Int.{to_z-of_z}
use Rattle.std.proofs.lemmas.List.{drop_more}
use Rattle.lin_rows.specs.Points.{valuation}
use Rattle.lin_rows.specs.WidePoints.{IsWide}
use Rattle.lin_solver.proofs.RestLemmas.{wide_start, wide_later, wide_product, numbers_skip, rest_more, rest_skip}
use Rattle.lin_solver.proofs.room.room_at.Goals as goal
use Rattle.lin_solver.proofs.room.room_at.Goals.{then-v-var+in_ok-product+in_ok-rest-2, else-v-var}

pub returns-in_err-rest-clause-none : goal.returns-in_err-rest-clause-none
returns-in_err-rest-clause-none c =
    let row = c.args.row.now in
    let point = c.args.point.now in
    let fb : FitsSigned w128 row.bound = search rules in
    let fq : FitsSigned w128 point.q = search rules in
    let wide : IsWide (row.bound *ℤ point.q) = rw (to_z-of_z w128 row.bound fb, to_z-of_z w128 point.q fq) at c.in_err-rest.ensures in
    rw c.from_residual.ensures (wide_start IsWide (row.bound *ℤ point.q) c.args.var row.coefs (valuation point.values) wide)

pub returns-in_err-product-clause-none : goal.returns-in_err-product-clause-none
returns-in_err-product-clause-none c =
    let x = valuation c.args.point.now.values in
    let ts = c.as_slice-v-items.result.now in
    let i = c.loop-v.v-index in
    let d : ℕ × ℤ = (0, pos 0) in
    let t = get_or ts i d in
    let value : c.value_of.result ≡ x t.0 = rw c.as_slice.ensures at c.value_of.ensures in
    let ft : FitsSigned w128 t.1 = search rules in
    let fv : FitsSigned w128 c.value_of.result = search rules in
    let wide : IsWide (t.1 *ℤ c.value_of.result) = rw (to_z-of_z w128 t.1 ft, to_z-of_z w128 c.value_of.result fv) at c.in_err-product.ensures in
    rw c.from_residual-in_err-product.ensures (c.loop-v.invariant.among (wide_product IsWide _ c.args.var (drop i ts) (drop (i + 1) ts) t x (drop_more ts i d c.loop-v-test.true) c.if-v-var.true (subst (λ z. IsWide (t.1 *ℤ z)) value wide)))

pub returns-in_err-rest-2-clause-none : goal.returns-in_err-rest-2-clause-none
returns-in_err-rest-2-clause-none c =
    let x = valuation c.args.point.now.values in
    let ts = c.as_slice-v-items.result.now in
    let i = c.loop-v.v-index in
    let d : ℕ × ℤ = (0, pos 0) in
    let t = get_or ts i d in
    let value : c.value_of.result ≡ x t.0 = rw c.as_slice.ensures at c.value_of.ensures in
    let ft : FitsSigned w128 t.1 = search rules in
    let fv : FitsSigned w128 c.value_of.result = search rules in
    let fp : FitsSigned w128 c.in_ok-product.product = search rules in
    let (fits, is) = rw (to_z-of_z w128 t.1 ft, to_z-of_z w128 c.value_of.result fv) at c.in_ok-product.ensures in
    let product : c.in_ok-product.product ≡ t.1 *ℤ x t.0 = is ∙ ap (λ z. t.1 *ℤ z) value in
    let wide = rw (to_z-of_z w128 c.in_ok-product.product fp) at c.in_err-rest-2.ensures in
    rw c.from_residual-in_err-rest-2.ensures (c.loop-v.invariant.among (wide_later IsWide _ c.args.var (drop i ts) (drop (i + 1) ts) t x (drop_more ts i d c.loop-v-test.true) c.if-v-var.true (wide_start IsWide _ c.args.var (drop (i + 1) ts) x (rw product at wide))))

pub loop-v-preserved : goal.loop-v-preserved
loop-v-preserved c =
    let x = valuation c.args.point.now.values in
    let ts = c.as_slice-v-items.result.now in
    let i = c.loop-v.v-index in
    let d : ℕ × ℤ = (0, pos 0) in
    let t = get_or ts i d in
    let inv = c.loop-v.invariant in
    let more = drop_more ts i d c.loop-v-test.true in
    elim c.if-v-var.branch [
      | then-v-var+in_ok-product+in_ok-rest-2 w ↦
          let value : w.value_of.result ≡ x t.0 = rw w.as_slice.ensures at w.value_of.ensures in
          let ft : FitsSigned w128 t.1 = search rules in
          let fv : FitsSigned w128 w.value_of.result = search rules in
          let fp : FitsSigned w128 w.in_ok-product.product = search rules in
          let fr : FitsSigned w128 w.in_ok-rest-2.rest = search rules in
          let (fits, is) = rw (to_z-of_z w128 t.1 ft, to_z-of_z w128 w.value_of.result fv) at w.in_ok-product.ensures in
          let product : w.in_ok-product.product ≡ t.1 *ℤ x t.0 = is ∙ ap (λ z. t.1 *ℤ z) value in
          let (fits', less) = rw (to_z-of_z w128 w.in_ok-product.product fp) at w.in_ok-rest-2.ensures in
          let rest = w.rest-is ∙ to_z-of_z w128 w.in_ok-rest-2.rest fr ∙ less ∙ ap (λ z. to_z w128 c.loop-v.rest-bits -ℤ z) product in
          record {
            rest = rw rest (rest_more _ _ c.args.var (drop i ts) (drop (i + 1) ts) t x more w.if-v-var.true inv.rest);
            among = λ any. inv.among (wide_later IsWide _ c.args.var (drop i ts) (drop (i + 1) ts) t x more w.if-v-var.true (rw rest at any));
          }
      | else-v-var w ↦ record {
        rest = rw w.rest-is (rest_skip _ _ c.args.var (drop i ts) (drop (i + 1) ts) t x more w.if-v-var.false inv.rest);
        among = λ any. inv.among (rw (numbers_skip _ c.args.var (drop i ts) (drop (i + 1) ts) t x more w.if-v-var.false) (rw w.rest-is at any));
      }
    ]
