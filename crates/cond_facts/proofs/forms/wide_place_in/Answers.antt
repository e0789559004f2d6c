use Rattle.cond_facts.proofs.FormTelling.{hypothesis_told, goal_told, none_told}
use Rattle.cond_facts.proofs.forms.wide_place_in.Goals as goal

pub returns-in-Some : goal.returns-in-Some
returns-in-Some c =
    hypothesis_told c.args.c.now _ c.as_slice.result.now c.in-Some.place c.as_slice.ensures c.in-Some.is c.in_ok-place.ensures

pub returns-then-branch : goal.returns-then-branch
returns-then-branch c =
    goal_told c.args.c.now _ c.as_slice-then-branch.result.now c.as_slice-then-branch.ensures c.if-branch.true c.in_ok-has_wide_form-in-None.ensures

pub returns-else-branch : goal.returns-else-branch
returns-else-branch c =
    none_told c.args.c.now _ c.as_slice.result.now _ c.as_slice.ensures c.in-None.is c.in_ok-place.ensures c.if-branch.false c.in_ok-has_wide_form-in-None.ensures
