use Rattle.std.specs.Prelude.{◌≡◌, ℕ, ℤ, pos, ◌<◌, ◌≤◌, ◌+◌, ◌∷◌, List, drop, get_or}
use Rattle.std.proofs.Common.{ap, subst, ◌∙◌, arith}
use Rattle.std.proofs.lemmas.List.{drop_more}
use Rattle.lin_rows.specs.Terms.{IsAbove, coef_at}
use Rattle.lin_rows.specs.TermLaws.{coef-miss, coef-below}
use Rattle.proof_checker.proofs.summands.variable_in.Goals as goal

abbrev InOrder : List (ℕ × ℤ) → Type 0
InOrder ts = (low : ℕ) × IsAbove low ts

-- the next term has a variable that isn't greater
passed : (last : ℕ) (all rest ts : List (ℕ × ℤ)) (t : ℕ × ℤ) → rest ≡ t ∷ ts → t.0 ≤ last → ((w : ℕ) → last < w → coef_at all w ≡ coef_at rest w) → (w : ℕ) → last < w → coef_at all w ≡ coef_at ts w
passed last all rest ts t e le same w lt = same w lt ∙ ap (λ z. coef_at z w) e ∙ coef-miss w t.0 t.1 ts (λ q. absurd (omega arith))

rest_in_order : (rest ts : List (ℕ × ℤ)) (t : ℕ × ℤ) → rest ≡ t ∷ ts → InOrder rest → InOrder ts
rest_in_order rest ts t e (low, h) = let k : IsAbove low (t ∷ ts) = subst (IsAbove low) e h in (t.0 + 1, k.2)

-- or it is the next one
found : (last : ℕ) (all rest ts : List (ℕ × ℤ)) (t : ℕ × ℤ) → rest ≡ t ∷ ts → InOrder rest → ((w : ℕ) → last < w → coef_at all w ≡ coef_at rest w) → (w : ℕ) → last < w → w < t.0 → coef_at all w ≡ pos 0
found last all rest ts t e (low, h) same w lt less =
    let k : IsAbove low (t ∷ ts) = subst (IsAbove low) e h in
    same w lt ∙ ap (λ z. coef_at z w) e ∙ coef-below t.0 (t ∷ ts) w (omega arith, k.1, k.2) less

pub loop-v-preserved : goal.loop-v-preserved
loop-v-preserved c =
    let d : ℕ × ℤ = (0, pos 0) in
    let ts = c.as_slice-v-items.result.now in
    let i = c.loop-v.v-index in
    let e = drop_more ts i d c.loop-v-test.true in
    record {
      in_order = rest_in_order (drop i ts) (drop (i + 1) ts) (get_or ts i d) e c.loop-v.invariant.in_order;
      same = passed c.args.last c.args.row.now.coefs (drop i ts) (drop (i + 1) ts) (get_or ts i d) e c.if-last-v.false c.loop-v.invariant.same;
    }

pub returns-then-last-v-clause-clear : goal.returns-then-last-v-clause-clear
returns-then-last-v-clause-clear c =
    let d : ℕ × ℤ = (0, pos 0) in
    let ts = c.as_slice-v-items.result.now in
    let i = c.loop-v.v-index in
    found c.args.last c.args.row.now.coefs (drop i ts) (drop (i + 1) ts) (get_or ts i d) (drop_more ts i d c.loop-v-test.true) c.loop-v.invariant.in_order c.loop-v.invariant.same
