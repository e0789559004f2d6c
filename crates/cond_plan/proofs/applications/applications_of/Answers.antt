use Rattle.std.specs.Prelude.{◌≡◌, [], ◌∷◌, ◌++◌}
use Rattle.std.proofs.lemmas.List.Elements.{All-push}
use Rattle.proof_checker.specs.Uses.{application_of as used}
use Rattle.cond_plan.specs.Plans.{IsPlaced}
use Rattle.cond_plan.proofs.Counted.{stands, one_more, are_applications}
use Rattle.cond_plan.proofs.applications.applications_of.Goals as goal

pub returns-in-None : goal.returns-in-None
returns-in-None c =
    are_applications c.args.c.now c.loop-n.all c.loop-n.n c.loop-n.invariant.listed c.in-None.ensures.none c.loop-n.invariant.placed

pub applied-requires : goal.applied-requires
applied-requires c = stands c.args.c.now c.loop-n.n (used c.in-Some.u) c.in-Some.ensures.some

pub loop-n-preserved : goal.loop-n-preserved
loop-n-preserved c =
    let k = c.args.c.now in
    let all = c.loop-n.all in
    let f = c.in_ok-applied-in-Some.field-0 in
    let pushed : c.push.new.self ≡ all ++ f ∷ [] = c.in_ok-push-in-Some.ensures.ok in record {
      listed = rw pushed (one_more k all f c.loop-n.n (used c.in-Some.u) c.loop-n.invariant.listed c.in-Some.ensures.some c.in_ok-applied-in-Some.ensures.same);
      placed = rw pushed (All-push (IsPlaced k) all f c.loop-n.invariant.placed c.in_ok-applied-in-Some.ensures.placed);
    }
