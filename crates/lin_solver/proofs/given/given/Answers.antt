use Rattle.std.specs.Prelude.{◌≡◌, [], ◌∷◌, ◌++◌, ◌<◌, length, Some, slice_get}
use Rattle.std.proofs.Common.{rules, sym, ap, ◌∙◌}
use Rattle.std.proofs.lemmas.Option.{slice_get-get_or}
use Rattle.std.proofs.lemmas.List.Elements.{All-push}
use Rattle.lin_solver.specs.Numbers.{HasRow, IsLive}
use Rattle.lin_solver.proofs.NumberLemmas.{prefix_same}
use Rattle.lin_solver.proofs.StepLemmas.{step_kept, given_live, all_numbers_more}
use Rattle.lin_solver.proofs.given.given.Goals as goal

pub returns-in_err-push-clause-kept : goal.returns-in_err-push-clause-kept
returns-in_err-push-clause-kept c h =
    rw (c.in_err-push.ensures.err, c.loop-number.invariant.same) h

pub returns-in_err-push-clause-grown : goal.returns-in_err-push-clause-grown
returns-in_err-push-clause-grown c =
    rw (c.in_err-push.ensures.err, c.loop-number.invariant.same) (prefix_same c.args.steps.now)

pub returns-then-is_false-clause-kept : goal.returns-then-is_false-clause-kept
returns-then-is_false-clause-kept c h =
    let steps = c.args.steps.now in
    let grown : c.push.new.self ≡ steps ++ c.false_step-step.result ∷ [] = rw c.loop-number.invariant.same at c.in_ok-push.ensures.ok in
    step_kept c.args.rows.now steps c.push.new.self c.false_step-step.result grown (rw (c.as_slice.ensures, c.loop-number.invariant.same) at c.false_step-step.ensures.holds) h

pub returns-then-is_false-clause-grown : goal.returns-then-is_false-clause-grown
returns-then-is_false-clause-grown c =
    (c.false_step-step.result ∷ [], rw c.loop-number.invariant.same at c.in_ok-push.ensures.ok)

pub returns-in_err-push-2-clause-kept : goal.returns-in_err-push-2-clause-kept
returns-in_err-push-2-clause-kept c h = rw c.loop-number.invariant.same h

pub returns-in_err-push-2-clause-grown : goal.returns-in_err-push-2-clause-grown
returns-in_err-push-2-clause-grown c =
    rw c.loop-number.invariant.same (prefix_same c.args.steps.now)

pub loop-number-preserved : goal.loop-number-preserved
loop-number-preserved c =
    let rows = c.args.rows.now in
    let steps = c.args.steps.now in
    let n = c.loop-number.number in
    let inv = c.loop-number.invariant in
    let lt : n < length rows = search rules in
    let at : slice_get rows n ≡ Some c.index-rows-number.result = slice_get-get_or rows n _ lt ∙ ap Some (sym c.index-rows-number.is) in
    let pushed : c.push-in-loop-number.new.self ≡ c.loop-number.numbers ++ n ∷ [] = c.in_ok-push-2.ensures.ok in record {
      same = inv.same;
      live = rw pushed (All-push (HasRow rows steps (IsLive rows 0)) c.loop-number.numbers n inv.live (given_live rows steps n c.index-rows-number.result at (search rules)));
      all = rw pushed (all_numbers_more c.loop-number.numbers n inv.all);
    }

pub returns-clause-kept : goal.returns-clause-kept
returns-clause-kept c h = rw c.loop-number.invariant.same h

pub returns-clause-grown : goal.returns-clause-grown
returns-clause-grown c =
    rw c.loop-number.invariant.same (prefix_same c.args.steps.now)

pub returns-clause-live : goal.returns-clause-live
returns-clause-live c = rw c.loop-number.invariant.same c.loop-number.invariant.live
