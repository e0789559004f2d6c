use Rattle.lin_rows.specs.Steps.{all_rows}
use Rattle.proof_checker.proofs.Adding.{step_from, step_adds_up}
use Rattle.proof_checker.proofs.combos.holds_with.Goals as goal

pub returns-in-Some : goal.returns-in-Some
returns-in-Some c rows a are is_left at_left =
    let lower = all_rows rows c.args.earlier.now in
    let (b, at_right, is_right) = c.in-Some.ensures rows are in
    let both = c.adds_up.ensures a b is_left is_right in
    (λ h. step_from lower c.args.s.now a b at_left at_right (both.0 h), λ h. both.1 (step_adds_up lower c.args.s.now a b at_left at_right h))
