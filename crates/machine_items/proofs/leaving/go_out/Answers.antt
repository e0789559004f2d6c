use Rattle.std.proofs.Common.{◌≡◌, Some, None, sym, subst, ◌∙◌}
use Rattle.py_syntax.specs.Control.{unwind}
use Rattle.machine_items.specs.Deeds.{running, waiting_below}
use Rattle.machine_items.specs.Outcomes.{ComesTo, outcome_in}
use Rattle.machine_items.specs.Ways.{counted, landed}
use Rattle.machine_items.proofs.Landings.{gone_on, gone_out}
use Rattle.machine_items.proofs.leaving.go_out.Goals as goal

pub returns-in-Some : goal.returns-in-Some
returns-in-Some c = λ ends.
    let lands : landed (Some c.in-Some.control) c.in_ok-landing.landing.turns c.args.w c.args.at.frame.now.control ≡ counted (unwind c.args.w (running c.args.at).control) =
    subst (λ o. landed o c.in_ok-landing.landing.turns c.args.w c.args.at.frame.now.control ≡ counted (unwind c.args.w (running c.args.at).control)) c.in-Some.is c.in_ok-landing.ensures in
    gone_on c.args.from_with c.args.w ends c.args.at.heap.now (running c.args.at) (waiting_below c.args.at) c.in-Some.control c.in_ok-landing.landing.turns c.args.at.frame.now.control lands
    ∙ c.emptying.ensures

pub returns-in-None : goal.returns-in-None
returns-in-None c = λ ends.
    let lands : landed None c.in_ok-landing.landing.turns c.args.w c.args.at.frame.now.control ≡ counted (unwind c.args.w (running c.args.at).control) =
    subst (λ o. landed o c.in_ok-landing.landing.turns c.args.w c.args.at.frame.now.control ≡ counted (unwind c.args.w (running c.args.at).control)) c.in-None.is c.in_ok-landing.ensures in
    subst (λ r. ComesTo r c.leave_blocks.result (outcome_in ends c.args.at))
    (sym (gone_out c.args.from_with c.args.w ends c.args.at.heap.now (running c.args.at) (waiting_below c.args.at) c.in_ok-landing.landing.turns c.args.at.frame.now.control lands))
    (c.leave_blocks.ensures ends)
