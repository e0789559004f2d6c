use Rattle.std.specs.Prelude.{◌<◌, ◌^◌, ◌++◌}
use Rattle.std.proofs.Common.{rules, arith, sym, subst}
use Rattle.lin_solver.specs.Numbers.{HaveRows, FollowsFrom, IsAny, IsLive}
use Rattle.lin_solver.specs.Levels.{AreLevels}
use Rattle.lin_solver.proofs.NumberLemmas.{have_weaker}
use Rattle.lin_solver.proofs.StrongestLemmas.{have_among, given_follow}
use Rattle.lin_solver.proofs.LevelLemmas.{live_next, first_grows, leads_more, leads_last}
use Rattle.lin_solver.proofs.levels.levels_of.Goals as goal

pub eliminate_one-requires : goal.eliminate_one-requires
eliminate_one-requires c =
    rw c.as_slice-in-Some.ensures (live_next c.args.rows.now c.loop-var.steps c.loop-var.from c.in-Some.var c.loop-var.live c.in-Some.ensures.some c.loop-var.invariant.live)

pub loop-var-preserved : goal.loop-var-preserved
loop-var-preserved c =
    let rows = c.args.rows.now in
    let inv = c.loop-var.invariant in
    let step = c.in_ok-level.field-0 in
    let steps = c.eliminate_one.new.steps in
    let small : c.in-Some.var < 2 ^ 32 = search rules in
    let here = rw c.as_slice-in-Some.ensures at c.in_ok-level.ensures.level in
    let (first, all, leads) = inv.levels in record {
      kept = λ h. c.eliminate_one.ensures.kept (inv.kept h);
      within = omega (arith, small);
      live = c.in_ok-level.ensures.live;
      levels = (first, first_grows rows c.loop-var.steps steps first c.eliminate_one.ensures.grown all, leads_more rows c.loop-var.steps steps first c.loop-var.levels c.loop-var.from c.in-Some.var c.loop-var.live step.level step.next c.push.new.self c.eliminate_one.ensures.grown c.in_ok-push.ensures.ok c.in_ok-level.ensures.var c.in-Some.ensures.some here leads);
    }

pub returns-clause-levels : goal.returns-clause-levels
returns-clause-levels c =
    let inv = c.loop-var.invariant in
    let (first, all, leads) = inv.levels in
    (first, all, leads_last c.args.rows.now c.loop-var.steps first c.loop-var.levels c.loop-var.from c.loop-var.live inv.live c.in_default.ensures.none leads)

pub strongest-requires : goal.strongest-requires
strongest-requires c =
    rw (c.as_slice.ensures, c.as_slice-2.ensures) (have_weaker c.args.rows.now c.given.new.steps (IsLive c.args.rows.now 0) IsAny c.in_ok-given.given (λ r h. tt) c.in_ok-given.ensures.live)

pub loop-var-init : goal.loop-var-init
loop-var-init c =
    let rows = c.args.rows.now in
    let steps = c.given.new.steps in
    let live = c.in_ok-live.live in
    let all : HaveRows rows steps (FollowsFrom rows steps live) c.in_ok-given.given = rw (c.as_slice.ensures, c.as_slice-2.ensures) at c.in_ok-live.ensures.all in record {
      kept = c.given.ensures.kept;
      within = search rules;
      live = have_among rows steps (IsLive rows 0) c.in_ok-given.given live c.in_ok-given.ensures.live (rw c.as_slice-2.ensures at c.in_ok-live.ensures.among);
      levels = (live, given_follow rows steps c.in_ok-given.given live all c.in_ok-given.ensures.all, λ new more p are. subst (λ l. AreLevels rows new 0 live (l ++ more)) (sym c.new-levels.ensures) are);
    }
