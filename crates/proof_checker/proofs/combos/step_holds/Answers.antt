use Rattle.proof_checker.proofs.combos.step_holds.Goals as goal

pub returns-in-Some : goal.returns-in-Some
returns-in-Some c rows are = let (a, at_left, is_left) = c.in-Some.ensures rows are in c.holds_with.ensures rows a are is_left at_left
