use Rattle.std.specs.Prelude.{◌<◌}
use Rattle.std.proofs.Common.{sym, subst, arith}
use Rattle.cond_plan.specs.Needs.{IsRepair}
use Rattle.cond_plan.proofs.Asking.{at_place, settled_at, asked_repair, congruent_more, congruent_all}
use Rattle.cond_plan.proofs.repair.repair_with.Goals as goal

pub asked_of-requires-clause-settled : goal.asked_of-requires-clause-settled
asked_of-requires-clause-settled c =
    let fs = c.args.applications.now in
    let order : c.args.i < c.loop-j.j = omega arith in
    settled_at c.args.p.now c.args.facts.now fs c.args.i c.loop-j.j c.index-applications-i.result c.index-applications-j.result c.requires.settled order (at_place fs c.args.i c.index-applications-i.result c.requires.within c.index-applications-i.is) (at_place fs c.loop-j.j c.index-applications-j.result c.loop-j-test.true c.index-applications-j.is)

pub returns-in-Some : goal.returns-in-Some
returns-in-Some c =
    let fs = c.args.applications.now in
    let order : c.args.i < c.loop-j.j = omega arith in
    subst (IsRepair c.args.facts.now fs) (sym c.numbered.ensures) (asked_repair c.args.facts.now fs c.args.i c.loop-j.j c.index-applications-i.result c.index-applications-j.result c.in-Some.asked order (at_place fs c.args.i c.index-applications-i.result c.requires.within c.index-applications-i.is) (at_place fs c.loop-j.j c.index-applications-j.result c.loop-j-test.true c.index-applications-j.is) c.in-Some.ensures)

pub loop-j-preserved : goal.loop-j-preserved
loop-j-preserved c =
    let fs = c.args.applications.now in
    congruent_more c.args.p.now fs c.args.i c.loop-j.j c.index-applications-i.result c.index-applications-j.result (at_place fs c.args.i c.index-applications-i.result c.requires.within c.index-applications-i.is) (at_place fs c.loop-j.j c.index-applications-j.result c.loop-j-test.true c.index-applications-j.is) c.in_default.ensures c.loop-j.invariant

pub returns : goal.returns
returns c =
    congruent_all c.args.p.now c.args.applications.now c.args.i c.loop-j.j c.loop-j-test.false c.loop-j.invariant
