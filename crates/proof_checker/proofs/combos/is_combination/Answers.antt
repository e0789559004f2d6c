use Rattle.std.specs.Prelude.{List, Option}
use Rattle.lin_rows.specs.declared.Row.{Row}
use Rattle.lin_rows.specs.declared.ComboStep.{ComboStep}
use Rattle.lin_rows.specs.Steps.{StepsHold, EndsFalse}
use Rattle.terms.specs.declared.Literal.{Literal}
use Rattle.proof_checker.specs.Chains.{facts}
use Rattle.proof_checker.specs.Rows.{AreAllRows}
use Rattle.proof_checker.specs.Combos.{Combines}
use Rattle.proof_checker.proofs.Existing.{rows_exist}
use Rattle.proof_checker.proofs.combos.is_combination.Goals as goal

combined : (fs : List Literal) (steps : List ComboStep) → EndsFalse steps → ((rows : List (Option Row)) → AreAllRows fs rows → StepsHold rows steps) → Combines fs steps
combined fs steps ends hold =
    let (rows, are) = rows_exist fs in
    (rows, are, record { steps_hold = hold rows are; ends_false = ends })

pub returns-then-ends_false : goal.returns-then-ends_false
returns-then-ends_false c = (
  λ h. combined (facts c.args.chain.now) c.args.steps.now (c.ends_false.ensures.0 c.if-ends_false.true) (λ rows are. (c.steps_hold.ensures rows are).0 h),
  λ h. (c.steps_hold.ensures h.0 h.1).1 h.2.steps_hold,
)
