use Rattle.std.specs.Prelude.{◌≡◌, ℕ, ℤ, pos, ◌∷◌, List, drop, get_or, FitsSigned}
use Rattle.std.specs.Int.{w128}
use Rattle.std.proofs.Common.{rules, sym, ap, subst, ◌∙◌}
use Rattle.std.proofs.lemmas.Int.{to_z-of_z}
use Rattle.std.proofs.lemmas.List.{drop_more}
use Rattle.lin_rows.specs.Terms.{IsAbove, coef_at}
use Rattle.lin_rows.specs.TermLaws.{coef-first}
use Rattle.lin_rows.proofs.terms.Terms.coef.Goals as goal

-- the first term of what is left has the variable
coef-found : (low : ℕ) (rest ts : List (ℕ × ℤ)) (t : ℕ × ℤ) (v : ℕ) → rest ≡ t ∷ ts → IsAbove low rest → t.0 ≡ v → coef_at rest v ≡ t.1
coef-found low rest ts t v e above is =
    let above' : IsAbove low (t ∷ ts) = subst (IsAbove low) e above in
    ap (λ z. coef_at z v) e ∙ coef-first v t.0 t.1 ts (sym is) above'.2

pub returns-then-v-var : goal.returns-then-v-var
returns-then-v-var c =
    let d : ℕ × ℤ = (0, pos 0) in
    let ts = c.as_slice-v-items.result.now in
    let i = c.loop-v.v-index in
    let x : FitsSigned w128 (get_or ts i d).1 = search rules in
    let (low, above) = c.loop-v.invariant.in_order in
    rw (to_z-of_z w128 (get_or ts i d).1 x) (sym (c.loop-v.invariant.same ∙ coef-found low (drop i ts) _ _ c.args.var (drop_more ts i d c.loop-v-test.true) above c.if-v-var.true))
