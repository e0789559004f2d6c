use Rattle.std.specs.Prelude.{ℕ, ℤ, pos, drop}
use Rattle.std.proofs.Common.{sym, ◌∙◌, arith}
use Rattle.std.proofs.lemmas.List.{drop_more}
use Rattle.lin_solver.proofs.VariableLemmas.{first_stands, first_least}
use Rattle.lin_solver.proofs.variables.first_from.Goals as goal

pub returns-then-v-from-clause-stands : goal.returns-then-v-from-clause-stands
returns-then-v-from-clause-stands c none =
    let d : ℕ × ℤ = (0, pos 0) in
    let ts = c.as_slice-v-items.result.now in
    let i = c.loop-v.v-index in
    let (low, above) = c.loop-v.invariant.in_order in
    first_stands low (drop i ts) _ _ (drop_more ts i d c.loop-v-test.true) above (sym (c.loop-v.invariant.same _ (omega (arith, c.if-v-from.true))) ∙ none)

pub returns-then-v-from-clause-least : goal.returns-then-v-from-clause-least
returns-then-v-from-clause-least c w from lt =
    let d : ℕ × ℤ = (0, pos 0) in
    let ts = c.as_slice-v-items.result.now in
    let i = c.loop-v.v-index in
    let (low, above) = c.loop-v.invariant.in_order in
    c.loop-v.invariant.same w from ∙ first_least low (drop i ts) _ _ w (drop_more ts i d c.loop-v-test.true) above lt
