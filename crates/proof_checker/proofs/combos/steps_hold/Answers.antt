use Rattle.std.specs.Prelude.{◌≡◌, ℕ, suc, ◌+◌, ◌<◌, List, ◌∷◌, ◌++◌, [], length, take, drop, get_or}
use Rattle.std.proofs.Common.{arith, ap, sym, subst, ◌∙◌}
use Rattle.std.proofs.Math.Seq.{take-suc}
use Rattle.std.proofs.lemmas.List.{drop_more, take-append-drop}
use Rattle.lin_rows.specs.declared.ComboStep.{ComboStep}
use Rattle.lin_rows.specs.Steps.{all_rows, StepHolds, StepsHold}
use Rattle.lin_rows.specs.StepLaws.{steps-push}
use Rattle.proof_checker.proofs.Adding.{refused, step_within}
use Rattle.proof_checker.proofs.combos.steps_hold.Goals as goal

next_front : (xs : List ComboStep) (i : ℕ) (x : ComboStep) → i < length xs → x ≡ get_or xs i x → take (i + 1) xs ≡ take i xs ++ x ∷ []
next_front xs i x lt is =
    let next : i + 1 ≡ suc i = omega arith in
    ap (λ (n : ℕ). take n xs) next ∙ take-suc xs i x lt ∙ ap (λ y. take i xs ++ y ∷ []) (sym is)

split_at : (xs : List ComboStep) (i : ℕ) (x : ComboStep) → i < length xs → x ≡ get_or xs i x → xs ≡ take i xs ++ x ∷ drop (i + 1) xs
split_at xs i x lt is = sym (take-append-drop i xs) ∙ ap (λ zs. take i xs ++ zs) (drop_more xs i x lt ∙ ap (λ y. y ∷ drop (i + 1) xs) (sym is))

pub returns-then-not-step_holds : goal.returns-then-not-step_holds
returns-then-not-step_holds c rows are =
    let xs = c.args.steps.now in
    let i = c.steps.i in
    let x = c.index-steps-i.result in
    let e = split_at xs i x c.steps-test.true c.index-steps-i.is in
    refused c.step_holds.result (StepHolds (all_rows rows (take i xs)) x) (StepsHold rows xs) c.if-not-step_holds.true (λ all. step_within rows (take i xs) x (drop (i + 1) xs) (subst (StepsHold rows) e all)) (c.step_holds.ensures rows are).1

pub steps-preserved : goal.steps-preserved
steps-preserved c =
    let xs = c.args.steps.now in
    let i = c.steps.i in
    let x = c.index-steps-i.result in
    let lt : i < length xs = c.steps-test.true in
    let e = next_front xs i x lt c.index-steps-i.is in
    record {
      within = omega arith;
      hold = λ rows are. subst (StepsHold rows) (sym e) (steps-push rows (take i xs) x (c.steps.invariant.hold rows are) ((c.step_holds.ensures rows are).0 c.if-not-step_holds.false));
    }
